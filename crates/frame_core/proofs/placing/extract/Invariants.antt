-- The loop of `frame_core::placing::extract`.
use Rattle.frame_spec.specs.RunLaws.{Runs}
use Rattle.frame_core.proofs.placing.extract.Given as goal

abbrev pub invariant-loop-i : goal.invariant-loop-i
invariant-loop-i l = Runs l.number l.frame l.i l.payload
