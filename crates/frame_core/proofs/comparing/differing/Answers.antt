-- `frame_core::comparing::differing` meets its contract.
use Rattle.std.proofs.Common.{rules}
use Rattle.frame_spec.proofs.PilotLaws.{by_pilots}
use Rattle.frame_core.proofs.comparing.differing.Goals as goal

pub loop-i-init : goal.loop-i-init
loop-i-init c = search (rules, by_pilots)

pub overflow_add-n : goal.overflow_add-n
overflow_add-n c = search (rules, by_pilots)

pub loop-i-preserved : goal.loop-i-preserved
loop-i-preserved c = search (rules, by_pilots)

pub returns : goal.returns
returns c = search (rules, by_pilots)
