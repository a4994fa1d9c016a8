-- `payload_core::put_payload` meets its contract: six blocks of each word, then the last bits.
use Rattle.std.proofs.Common.{rules}
use Rattle.payload_core.specs.PayloadParts.{payload_parts}
use Rattle.payload_core.proofs.put_payload.Goals as goal

pub returns : goal.returns
returns c = search (rules, payload_parts)
