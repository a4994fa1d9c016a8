-- `mapping_qpsk_core::y_byte` meets its contract: the law for Y.
use Rattle.std.proofs.Common.{rules}
use Rattle.cells_spec.proofs.QpskLaws.{halves}
use Rattle.mapping_qpsk_core.proofs.y_byte.Goals as goal

pub returns : goal.returns
returns c = search (rules, halves)
