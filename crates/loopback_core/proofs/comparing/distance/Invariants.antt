-- The bits of those so far.
use Rattle.bits.proofs.Folding.{Counting}
use Rattle.loopback_core.specs.Tally.{wrong_at}
use Rattle.loopback_core.proofs.comparing.distance.Given as goal

abbrev pub invariant-loop-k : goal.invariant-loop-k
invariant-loop-k l = Counting (wrong_at l.a l.b) 256 l.k l.n
