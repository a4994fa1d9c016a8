-- The pairs received so far, their history and what is counted of them.
use Rattle.std.proofs.Common.{◌≡◌}
use Rattle.bits.specs.Parts.{part_of}
use Rattle.pair_spec.specs.Front.{history_of, BeforePair}
use Rattle.pair_spec.specs.Stream.{pair_receiver, history_before}
use Rattle.loopback_core.specs.StepLaws.{Stepping}
use Rattle.loopback.specs.Received.{next_received}
use Rattle.loopback.proofs.receiving.receive_all.Given as goal

abbrev pub invariant-loop-k : goal.invariant-loop-k
invariant-loop-k l =
    record {
      before : BeforePair l.run.encoder.number l.k l.history;
      history_is : l.history ≡ history_of l.run.encoder.number l.k (history_before pair_receiver 1 (part_of 512 l.run.got.now) l.k);
      counted : Stepping (next_received l.run.encoder.number l.run.sent.now l.run.got.now) 336 l.fn.counts l.k l.counts;
    }
