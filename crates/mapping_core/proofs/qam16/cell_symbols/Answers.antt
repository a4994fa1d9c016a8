-- `mapping_core::qam16::cell_symbols` meets its contract: entry k is the symbol whose cell is k / 16, k % 16.
use Rattle.std.proofs.Common.{rules}
use Rattle.bits.proofs.FromFn.{from_fn_is}
use Rattle.cells_spec.specs.Qam16Tables.{cell_symbol, cell_symbols}
use Rattle.mapping_core.proofs.qam16.cell_symbols.Goals as goal

pub returns : goal.returns
unfolding cell_symbols cell_symbol
returns c = from_fn_is _ (λ i y q l e. search rules) c.from_fn.ensures.items
