-- The halves sent so far, their history and what is counted of them.
use Rattle.std.proofs.Common.{◌≡◌, ◌*◌}
use Rattle.bits.specs.Filling.{Blocks}
use Rattle.bits.specs.Parts.{byte_of_each}
use Rattle.pair_spec.specs.Front.{history_of, BeforePair}
use Rattle.pair_spec.specs.Stream.{pair_encoder, history_before}
use Rattle.loopback_core.specs.Random.{payload_in}
use Rattle.loopback_core.specs.StepLaws.{Stepping}
use Rattle.loopback.specs.Sent.{sent_in, half_sent}
use Rattle.loopback.proofs.sending.encode_both.Given as goal

abbrev pub invariant-loop-q : goal.invariant-loop-q
invariant-loop-q l =
    record {
      before : BeforePair l.encoder.number (168 * l.q) l.history;
      filled : Blocks (byte_of_each 86016 (sent_in l.encoder.number)) 86016 2 l.q l.coded;
      history_is : l.history ≡ history_of l.encoder.number (168 * l.q) (history_before pair_encoder 168 (payload_in l.encoder.number) l.q);
      counted : Stepping (λ i. half_sent) 2 l.fn.counts l.q l.counts;
    }
