-- `loopback::receiving::compare_coded` meets its contract.
use Rattle.loopback.specs.StreamLaws.{coded_counted_lem}
use Rattle.loopback.proofs.receiving.compare_coded.Goals as goal

pub returns : goal.returns
returns c = coded_counted_lem _ _ _ _ _ _ _ _ _ _ _ _ _ _ c.word-s.ensures c.word-g.ensures c.kept_word-h.ensures c.word_kind.ensures.0 c.add.ensures c.lost.ensures.0 c.count_bits.ensures
