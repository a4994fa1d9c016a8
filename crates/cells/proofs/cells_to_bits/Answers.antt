-- `cells::cells_to_bits` meets its contract: the tests in their order, and what it does.
use Rattle.std.proofs.Common.{rules}
use Rattle.calls.proofs.CallLaws.{cases, misfit_of, fits_of}
use Rattle.cells_spec.proofs.CallLaws.{legality, legal_unfound, demap_done}
use Rattle.cells_spec.proofs.FoundLaws.{found_at, found_within, found_none}
use Rattle.cells.proofs.cells_to_bits.Goals as goal

ruleset kit = (rules, cases, misfit_of)

pub returns-then-cells-cell_bytes : goal.returns-then-cells-cell_bytes
returns-then-cells-cell_bytes c = search kit

pub returns-then-bits-ne-BITS : goal.returns-then-bits-ne-BITS
returns-then-bits-ne-BITS c = search kit

pub returns-in-Some : goal.returns-in-Some
returns-in-Some c = search (kit, legality, found_at _ _ _ c.in-Some.ensures, found_within _ _ _ c.in-Some.ensures)

pub demap-requires : goal.demap-requires
demap-requires c =
    (search rules, search (rules, fits_of), legal_unfound _ _ c.in_default.ensures)

pub returns : goal.returns
returns c = search (rules, demap_done, found_none _ _ c.in_default.ensures)
