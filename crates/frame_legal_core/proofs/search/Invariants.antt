-- The loop of `frame_legal_core::search`: no byte that was passed is illegal.
use Rattle.bits.specs.Seeking.{Seeking}
use Rattle.profiles_spec.specs.Profiles.{qpsk}
use Rattle.frame_spec.specs.Frames.{frame_rule}
use Rattle.frame_legal_core.proofs.search.Given as goal

abbrev pub invariant-loop-j : goal.invariant-loop-j
invariant-loop-j l = Seeking 0 (frame_rule qpsk l.number) l.frame l.j
