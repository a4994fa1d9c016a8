-- `loopback::receiving::payload_word` meets its contract.
use Rattle.std.proofs.Common.{rules}
use Rattle.loopback.specs.StreamLaws.{payload_in_lem}
use Rattle.loopback.proofs.receiving.payload_word.Goals as goal

pub returns : goal.returns
returns c = search (rules, payload_in_lem)
