-- `frame_core::placing::place` meets its contract.
use Rattle.std.proofs.Common.{rules}
use Rattle.frame_spec.proofs.RunLaws.{by_framing}
use Rattle.frame_core.proofs.placing.place.Goals as goal

pub loop-i-preserved : goal.loop-i-preserved
loop-i-preserved c = search (rules, by_framing)

pub returns : goal.returns
returns c = search (rules, by_framing)
