-- `loopback::receiving::compare` meets its contract: one word a turn.
use Rattle.std.proofs.Common.{rules}
use Rattle.loopback_core.specs.StepLaws.{step_none}
use Rattle.loopback.specs.StreamLaws.{words_more, words_done}
use Rattle.loopback.proofs.receiving.compare.Goals as goal

pub loop-w-init : goal.loop-w-init
loop-w-init c = search (rules, step_none)

pub loop-w-preserved : goal.loop-w-preserved
loop-w-preserved c = words_more _ _ _ _ _ _ _ _ _ _ _ _ c.loop-w.invariant (search rules) c.compare_coded.ensures c.compare_payload.ensures

pub returns : goal.returns
returns c = search (rules, words_done)
