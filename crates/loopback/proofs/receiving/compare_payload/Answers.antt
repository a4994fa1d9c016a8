-- `loopback::receiving::compare_payload` meets its contract.
use Rattle.std.proofs.Common.{rules}
use Rattle.std.proofs.Common.{refl}
use Rattle.loopback_core.specs.RandomLaws.{payload_drawn}
use Rattle.loopback.specs.StreamLaws.{payload_counted_lem}
use Rattle.loopback.proofs.receiving.compare_payload.Goals as goal

pub returns : goal.returns
returns c =
    payload_counted_lem _ _ _ _ _ _ _ _ _ _ _ (payload_drawn _ _ _ _ _ refl (search rules) c.fill.ensures) c.payload_word-s.ensures c.payload_word-o.ensures
    c.lost.ensures.0 c.count_bits.ensures
