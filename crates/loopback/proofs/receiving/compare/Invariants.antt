-- The words compared so far.
use Rattle.loopback_core.specs.StepLaws.{Stepping}
use Rattle.loopback.specs.Received.{word_compared}
use Rattle.loopback.proofs.receiving.compare.Given as goal

abbrev pub invariant-loop-w : goal.invariant-loop-w
invariant-loop-w l =
    Stepping (word_compared l.run.encoder.number l.k l.run.sent.now l.run.got.now l.history l.out l.marks) 32 l.fn.counts l.w l.counts
