-- `pair_stream::encode` meets its contract: one pair a turn.
use Rattle.std.proofs.Common.{◌≡◌, ◌+◌, ◌*◌, rules, refl, ap, ap₂, arith}
use Rattle.bits.specs.Filling.{by_blocks, blocks_next}
use Rattle.bits.specs.Parts.{part_of}
use Rattle.pair_spec.specs.Calls.{EncodeBuffers, encode_buffers, encode_next}
use Rattle.pair_spec.proofs.StreamLaws.{pair_encoded, streaming, stream_own, stream_more, coded_block}
use Rattle.pair_stream.proofs.encode.Goals as goal

ruleset kit = (rules, by_blocks, streaming)

pub loop-k-init : goal.loop-k-init
loop-k-init c = record { coded = search kit; history = search kit }

pub loop-k-preserved : goal.loop-k-preserved
loop-k-preserved c =
    let made : encode_buffers c.encode_pair.new.coded c.encode_pair.new.history ≡ encode_next c.loop-k.history c.args.encoder (c.args.first + c.loop-k.k) (part_of 444 c.args.payload.now c.loop-k.k) =
    pair_encoded c.args.pairs c.loop-k.k (c.loop-k.k * 444) (c.loop-k.k * 444 + 444) c.loop-k-test.true refl refl c.args.encoder (c.args.first + c.loop-k.k)
    c.requires.encoder_known (omega (arith, c.requires.numbers_fit)) c.args.payload.now c.requires.payload_fits_lem _ _ _ _ c.loop-k.history
    c.encode_pair.ensures (search rules) (stream_own _ c.loop-k.invariant.history refl) in
    record {
      coded = blocks_next {d = c.loop-k.coded} (c.loop-k.k * 512) (c.loop-k.k * 512 + 512) _ c.loop-k.invariant.coded c.loop-k-test.true refl refl
          (coded_block _ _ c.loop-k.invariant.history refl (ap (λ (b : EncodeBuffers). b.coded) made));
      history = stream_more _ c.loop-k.invariant.history refl _ (ap (λ (b : EncodeBuffers). b.history) made);
    }

pub returns : goal.returns
returns c = ap₂ encode_buffers (search kit) (search kit)
