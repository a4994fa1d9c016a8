-- `superframe_buffers_core::buffer` meets its contract.
use Rattle.std.proofs.Common.{rules}
use Rattle.superframe_spec.proofs.SuperframeLaws.{buffering}
use Rattle.superframe_buffers_core.proofs.buffer.Goals as goal

pub returns : goal.returns
returns c = search (rules, buffering)
