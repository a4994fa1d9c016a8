-- `payload_core::put_last` meets its contract: eight words a part.
use Rattle.std.proofs.Common.{rules}
use Rattle.bits.specs.Bits.{byte_of, pack}
use Rattle.payload_core.specs.PayloadParts.{last_bit, eight_part}
use Rattle.payload_core.proofs.put_last.Goals as goal

pub returns : goal.returns
unfolding pack
returns c =
    rw c.requires at (c.fill_parts.ensures (byte_of (last_bit c.args.halves.now))
    (λ k p q l long e. eight_part (last_bit c.args.halves.now) k q.now (search rules)))
