-- The loop of `frame_core::placing::place`.
use Rattle.frame_spec.specs.RunLaws.{Groups}
use Rattle.frame_core.proofs.placing.place.Given as goal

abbrev pub invariant-loop-i : goal.invariant-loop-i
invariant-loop-i l = Groups l.number l.payload l.own l.i l.frame
