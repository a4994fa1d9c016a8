-- `pair_words_core::words::front_byte` meets its contract: eight bits.
use Rattle.std.proofs.Common.{◌+◌, ◌*◌, rules}
use Rattle.bits.specs.Bits.{byte_of}
use Rattle.pair_words_core.specs.WordBytes.{front_stored}
use Rattle.pair_words_core.proofs.words.front_byte.Goals as goal

pub returns : goal.returns
unfolding byte_of
returns c = c.byte_from.ensures (λ k. front_stored c.args.history.now c.args.w (c.args.j * 8 + k)) (λ k r l e. search rules)
