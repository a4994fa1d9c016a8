-- `mapping_qpsk_core::symbol_of` meets its contract: the definition.
use Rattle.std.proofs.Common.{rules}
use Rattle.cells_spec.specs.QpskLaws.{symbol_of_cell}
use Rattle.mapping_qpsk_core.proofs.symbol_of.Goals as goal

pub returns : goal.returns
unfolding symbol_of_cell
returns c = search rules
