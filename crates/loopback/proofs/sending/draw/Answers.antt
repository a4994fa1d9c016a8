-- `loopback::sending::draw` meets its contract: one pair a part.
use Rattle.std.proofs.Common.{rules}
use Rattle.std.proofs.Common.{◌+◌, ◌*◌, refl}
use Rattle.bits.specs.Parts.{byte_of_each}
use Rattle.loopback_core.specs.Random.{pair_payload}
use Rattle.loopback_core.specs.RandomLaws.{pair_block, payload_stream_is}
use Rattle.loopback.proofs.sending.draw.Goals as goal

pub returns : goal.returns
returns c =
    let e = c.args.encoder.number in
    let q = c.args.q in
    payload_stream_is e q _
    (rw c.told-payload at (c.fill_parts.ensures (byte_of_each 444 (λ j. pair_payload e (q * 168 + j))) (λ k p part l long is. pair_block e q k part.now p.now ((q * 168 + k) * 2 + e) refl long (search rules))))
