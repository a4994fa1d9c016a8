-- `marks::add_up` meets its contract: one mark a turn.
use Rattle.std.proofs.Common.{rules}
use Rattle.marks.specs.MarkLaws.{mark_summing, mark_sum_none, mark_sum_done}
use Rattle.marks.proofs.add_up.Goals as goal

pub loop-mark-init : goal.loop-mark-init
loop-mark-init c = (mark_sum_none _ _, mark_sum_none _ _)

pub loop-mark-preserved : goal.loop-mark-preserved
loop-mark-preserved c = search (rules, mark_summing)

pub returns : goal.returns
returns c = mark_sum_done c.loop-mark.invariant.0 c.loop-mark.invariant.1 c.loop-mark-test.false
