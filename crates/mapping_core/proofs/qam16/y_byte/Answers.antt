-- `mapping_core::qam16::y_byte` meets its contract: the law for Y.
use Rattle.std.proofs.Common.{rules}
use Rattle.cells_spec.proofs.Qam16Laws.{halves}
use Rattle.mapping_core.proofs.qam16.y_byte.Goals as goal

pub returns : goal.returns
returns c = search (rules, halves)
