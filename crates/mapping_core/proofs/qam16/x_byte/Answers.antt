-- `mapping_core::qam16::x_byte` meets its contract: the law for X.
use Rattle.std.proofs.Common.{rules}
use Rattle.cells_spec.proofs.Qam16Laws.{halves}
use Rattle.mapping_core.proofs.qam16.x_byte.Goals as goal

pub returns : goal.returns
returns c = search (rules, halves)
