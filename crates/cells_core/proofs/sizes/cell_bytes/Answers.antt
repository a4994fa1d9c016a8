-- `cells_core::sizes::cell_bytes` meets its contract.
use Rattle.std.proofs.Common.{rules}
use Rattle.cells_spec.specs.Modulation.{cells_per_buffer}
use Rattle.cells_core.proofs.sizes.cell_bytes.Goals as goal

pub returns : goal.returns
unfolding cells_per_buffer
returns c = search rules
