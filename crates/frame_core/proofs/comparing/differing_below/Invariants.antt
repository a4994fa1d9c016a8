-- The loop of `frame_core::comparing::differing_below`.
use Rattle.bits.proofs.Folding.{Counting}
use Rattle.frame_spec.specs.Frames.{overhead_differs}
use Rattle.frame_core.proofs.comparing.differing_below.Given as goal

abbrev pub invariant-loop-m : goal.invariant-loop-m
invariant-loop-m l = Counting (overhead_differs l.number l.frame l.own) l.m-end l.m l.n
