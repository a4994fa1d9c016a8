-- `mapping_qpsk_core::x_byte` meets its contract: the law for X.
use Rattle.std.proofs.Common.{rules}
use Rattle.cells_spec.proofs.QpskLaws.{halves}
use Rattle.mapping_qpsk_core.proofs.x_byte.Goals as goal

pub returns : goal.returns
returns c = search (rules, halves)
