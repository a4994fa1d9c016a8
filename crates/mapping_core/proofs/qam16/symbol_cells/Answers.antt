-- `mapping_core::qam16::symbol_cells` meets its contract: entry b is that of byte b.
use Rattle.std.proofs.Common.{rules}
use Rattle.bits.proofs.FromFn.{from_fn_is}
use Rattle.cells_spec.specs.Qam16Tables.{symbol_cells}
use Rattle.mapping_core.proofs.qam16.symbol_cells.Goals as goal

pub returns : goal.returns
unfolding symbol_cells
returns c = from_fn_is _ (λ i y q l e. search rules) c.from_fn.ensures.items
