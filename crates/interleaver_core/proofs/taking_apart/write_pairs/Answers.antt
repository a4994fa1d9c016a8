-- `interleaver_core::taking_apart::write_pairs` meets its contract.
use Rattle.std.proofs.Common.{◌+◌, ◌*◌, refl, rules, arith}
use Rattle.bits.specs.Bits.{bit, byte_of, pack}
use Rattle.interleaver_spec.specs.BlockBuffer.{restored_row}
use Rattle.interleaver_spec.specs.Interleaving.{output_of, apart}
use Rattle.interleaver_spec.proofs.BlockBufferLaws.{row_bytes}
use Rattle.interleaver_core.proofs.taking_apart.write_pairs.Goals as goal

pub returns : goal.returns
unfolding apart pack
returns c =
    rw c.requires.2 at (c.fill_parts.ensures (byte_of (λ m. bit c.args.bits.now (output_of c.args.encoder m)))
    (λ r p q l long e. row_bytes _ _ r (restored_row c.args.bits.now (2 * r + c.args.encoder)) q.now c.requires.1 (omega (arith, c.requires.2)) refl (search rules)))
