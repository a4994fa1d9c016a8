-- `loopback_refused_core::frame_beyond` meets its contract.
use Rattle.std.proofs.Common.{rules}
use Rattle.loopback_refused_core.specs.RefusedLaws.{frame_beyond}
use Rattle.loopback_refused_core.proofs.frame_beyond.Goals as goal

pub returns : goal.returns
returns c = search (rules, frame_beyond)
