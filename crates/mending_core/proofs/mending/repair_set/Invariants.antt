-- Word by word: what is left to do gives the whole.
use Rattle.mending_core.specs.MendingLaws.{Going}
use Rattle.mending_core.proofs.mending.repair_set.Given as goal

abbrev pub invariant-loop-w : goal.invariant-loop-w
invariant-loop-w l =
    Going l.guide.numbers l.guide.odd l.guide.front l.set l.initial.halves l.initial.coded l.initial.marks l.w-iterator.0 l.halves l.coded l.marks
