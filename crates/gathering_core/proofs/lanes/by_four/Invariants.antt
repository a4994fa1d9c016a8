-- `gathering_core::lanes::by_four`: lane by lane.
use Rattle.blocks.specs.Laying.{Laid}
use Rattle.gathering_spec.specs.Sums.{lane64}
use Rattle.gathering_core.proofs.lanes.by_four.Given as goal

abbrev pub invariant-loop-c : goal.invariant-loop-c
invariant-loop-c l = Laid (lane64 l.x) l.c l.z
