-- `encoding_core::encode_into` meets its contract.
use Rattle.std.proofs.Common.{rules}
use Rattle.encoding_core.specs.EncodingLaws.{encoded_made}
use Rattle.encoding_core.proofs.encode_into.Goals as goal

pub returns : goal.returns
returns c = search (rules, encoded_made)
