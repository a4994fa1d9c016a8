-- `cells::bits_to_cells` meets its contract: the tests in their order, and what it does.
use Rattle.std.proofs.Common.{rules}
use Rattle.calls.proofs.CallLaws.{cases, misfit_of}
use Rattle.cells_spec.proofs.CallLaws.{map_done}
use Rattle.cells.proofs.bits_to_cells.Goals as goal

ruleset kit = (rules, cases, misfit_of)

pub returns-then-bits-ne-BITS : goal.returns-then-bits-ne-BITS
returns-then-bits-ne-BITS c = search kit

pub returns-then-cells-cell_bytes : goal.returns-then-cells-cell_bytes
returns-then-cells-cell_bytes c = search kit

pub returns : goal.returns
returns c = search (rules, map_done)
