-- The bits counted so far.
use Rattle.loopback_core.specs.StepLaws.{Stepping}
use Rattle.loopback_core.specs.Tally.{one_more, bit_kind}
use Rattle.loopback_core.proofs.comparing.count_bits.Given as goal

abbrev pub invariant-loop-i : goal.invariant-loop-i
invariant-loop-i l = Stepping (one_more (bit_kind l.from l.sent l.got l.kept)) l.n l.fn.counts l.i l.counts
