-- `mapping_core::qam16::byte_of` meets its contract: the four bits of I and the four of Q, in their places.
use Rattle.std.proofs.Common.{rules}
use Rattle.cells_spec.proofs.Qam16Laws.{byte_woven}
use Rattle.mapping_core.proofs.qam16.byte_of.Goals as goal

pub returns : goal.returns
returns c = search (rules, byte_woven)
