-- `pair_stream::receive` meets its contract: one pair a turn.
use Rattle.std.proofs.Common.{◌≡◌, ◌+◌, ◌*◌, rules, refl, ap, arith}
use Rattle.bits.specs.Filling.{by_blocks, blocks_next}
use Rattle.bits.specs.Parts.{part_of}
use Rattle.pair_spec.specs.History.{depth}
use Rattle.pair_spec.specs.Calls.{ReceiveBuffers, receive_buffers, receive_next}
use Rattle.pair_spec.proofs.CallLaws.{receive_written}
use Rattle.pair_spec.proofs.StreamLaws.{pair_received, streaming, stream_own, stream_more, payload_block, marks_block}
use Rattle.pair_stream.proofs.receive.Goals as goal

ruleset kit = (rules, by_blocks, streaming)

pub loop-k-init : goal.loop-k-init
loop-k-init c = record { payload = search kit; marks = search kit; history = search kit }

pub loop-k-preserved : goal.loop-k-preserved
loop-k-preserved c =
    let made : receive_buffers c.receive_pair.new.payload c.receive_pair.new.marks c.receive_pair.new.history ≡ receive_next depth c.loop-k.history c.args.encoder (c.args.first + c.loop-k.k) (part_of 512 c.args.coded.now c.loop-k.k) =
    pair_received c.args.pairs c.loop-k.k (c.loop-k.k * 512) (c.loop-k.k * 512 + 512) c.loop-k-test.true refl refl c.args.encoder (c.args.first + c.loop-k.k)
    c.requires.encoder_known (omega (arith, c.requires.numbers_fit)) c.args.coded.now c.requires.coded_fits _ _ _ _ _ _ c.loop-k.history
    c.receive_pair.ensures (search rules) (search rules) (stream_own _ c.loop-k.invariant.history refl) in
    record {
      payload = blocks_next {d = c.loop-k.payload} (c.loop-k.k * 444) (c.loop-k.k * 444 + 444) _ c.loop-k.invariant.payload c.loop-k-test.true refl refl
          (payload_block _ _ c.loop-k.invariant.history refl (ap (λ (b : ReceiveBuffers). b.payload) made));
      marks = blocks_next {d = c.loop-k.marks} (c.loop-k.k * 32) (c.loop-k.k * 32 + 32) _ c.loop-k.invariant.marks c.loop-k-test.true refl refl
          (marks_block _ _ c.loop-k.invariant.history refl (ap (λ (b : ReceiveBuffers). b.marks) made));
      history = stream_more _ c.loop-k.invariant.history refl _ (ap (λ (b : ReceiveBuffers). b.history) made);
    }

pub returns : goal.returns
returns c = receive_written (search kit) (search kit) (search kit)
