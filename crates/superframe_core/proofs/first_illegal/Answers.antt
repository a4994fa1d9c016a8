-- `superframe_core::first_illegal` meets its contract: one sub-frame a turn.
use Rattle.std.proofs.Common.{rules}
use Rattle.superframe_spec.proofs.LegalLaws.{judging_line}
use Rattle.superframe_core.proofs.first_illegal.Goals as goal

pub returns-in-Some : goal.returns-in-Some
returns-in-Some c = search (rules, judging_line)

pub loop-s-preserved : goal.loop-s-preserved
loop-s-preserved c = search (rules, judging_line)

pub returns : goal.returns
returns c = search (rules, judging_line)

pub overflow_add-result : goal.overflow_add-result
overflow_add-result c = search (rules, judging_line)
