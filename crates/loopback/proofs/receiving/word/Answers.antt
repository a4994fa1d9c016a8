-- `loopback::receiving::word` meets its contract.
use Rattle.std.proofs.Common.{rules}
use Rattle.bits.proofs.PartLaws.{part_long}
use Rattle.loopback.specs.StreamLaws.{word_in_lem}
use Rattle.loopback.proofs.receiving.word.Goals as goal

pub held_word-requires : goal.held_word-requires
held_word-requires c = search (rules, part_long)

pub returns : goal.returns
returns c = search (rules, word_in_lem)
