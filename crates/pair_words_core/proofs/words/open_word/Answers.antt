-- `pair_words_core::words::open_word` meets its contract: one law for each half.
use Rattle.std.proofs.Common.{◌∙◌}
use Rattle.bits.specs.Bits.{byte_of, pack}
use Rattle.word_spec.specs.Completion.{first_bits}
use Rattle.pair_spec.specs.History.{depth}
use Rattle.pair_spec.specs.Encoding.{open_word}
use Rattle.pair_words_core.specs.WordBytes.{open_first, open_second}
use Rattle.pair_words_core.proofs.words.open_word.Goals as goal

pub returns : goal.returns
unfolding pack
returns c =
    let a = c.args in
    c.joined.ensures (byte_of (first_bits (open_word depth a.history.now a.pair a.payload.now a.w)))
    (c.front_half.ensures ∙ open_first a.history.now a.payload.now a.pair a.w c.requires.2)
    (c.own_half.ensures ∙ open_second a.history.now a.payload.now a.pair a.w c.requires.2)
