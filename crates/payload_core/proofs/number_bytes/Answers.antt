-- `payload_core::number_bytes` meets its contract: byte by byte.
use Rattle.std.proofs.Common.{rules}
use Rattle.bits.proofs.FromFn.{from_fn_is}
use Rattle.bits.specs.Bits.{bit_of, byte_of, pack}
use Rattle.payload_core.specs.PayloadParts.{byte_of_64}
use Rattle.payload_core.proofs.number_bytes.Goals as goal

pub returns : goal.returns
unfolding pack
returns c = from_fn_is (byte_of (bit_of 64 c.args.v)) (λ j y q l e. search (rules, byte_of_64)) c.from_fn.ensures.items
