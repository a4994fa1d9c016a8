-- `interleaver_core::joining::write_bits` meets its contract.
use Rattle.std.proofs.Common.{rules}
use Rattle.bits.specs.Bits.{byte_of, pack}
use Rattle.interleaver_spec.specs.BlockBuffer.{output_bit, column_byte}
use Rattle.interleaver_core.proofs.joining.write_bits.Goals as goal

pub returns : goal.returns
unfolding pack column_byte
returns c = rw c.requires at (c.fill_parts.ensures (byte_of (output_bit c.args.rows.now)) (λ k p q l long e. search rules))
