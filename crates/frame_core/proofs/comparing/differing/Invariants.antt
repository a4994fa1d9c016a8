-- The loop of `frame_core::comparing::differing`.
use Rattle.frame_spec.proofs.PilotLaws.{Pilots}
use Rattle.frame_core.proofs.comparing.differing.Given as goal

abbrev pub invariant-loop-i : goal.invariant-loop-i
invariant-loop-i l = Pilots l.number l.frame l.own l.i l.n
