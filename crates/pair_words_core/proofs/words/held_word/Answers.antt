-- `pair_words_core::words::held_word` meets its contract: one law for each half.
use Rattle.std.proofs.Common.{◌∙◌}
use Rattle.bits.specs.Bits.{byte_of, pack}
use Rattle.pair_spec.specs.History.{depth}
use Rattle.pair_spec.specs.Receiving.{held_word}
use Rattle.pair_words_core.specs.WordBytes.{held_first, held_second}
use Rattle.pair_words_core.proofs.words.held_word.Goals as goal

pub returns : goal.returns
unfolding pack
returns c =
    let a = c.args in
    c.joined.ensures (byte_of (held_word depth a.history.now a.pair a.coded.now a.w))
    (c.front_half.ensures ∙ held_first a.history.now a.coded.now a.pair a.w c.requires.0 c.requires.2)
    (c.coded_half.ensures ∙ held_second a.history.now a.coded.now a.pair a.w c.requires.0 c.requires.2)
