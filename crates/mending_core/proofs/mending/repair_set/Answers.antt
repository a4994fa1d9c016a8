-- `mending::repair_set` meets its contract: word by word.
use Rattle.mending_core.specs.MendingLaws.{going_more, going_done}
use Rattle.mending_core.proofs.mending.repair_set.Goals as goal

pub loop-w-preserved : goal.loop-w-preserved
loop-w-preserved c =
    let step = c.in-Some.ensures.steps in
    let handled = c.repair_word.ensures in
    going_more _ _ _ _ _ c.loop-w.invariant step.1 handled.0 handled.1 step.2

pub returns : goal.returns
returns c =
    let go = c.loop-w.invariant in
    (going_done go c.in-None.ensures.steps, go.coded, go.marks)
