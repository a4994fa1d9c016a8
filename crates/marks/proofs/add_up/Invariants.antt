-- One mark a turn.
use Rattle.word_spec.specs.Marks.{flips_in, lost_in}
use Rattle.marks.specs.MarkLaws.{MarkSum}
use Rattle.marks.proofs.add_up.Given as goal

abbrev pub invariant-loop-mark : goal.invariant-loop-mark
invariant-loop-mark l = MarkSum flips_in l.marks l.mark-index l.sums.flips × MarkSum lost_in l.marks l.mark-index l.sums.lost
