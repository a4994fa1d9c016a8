-- `pair_words_core::words::front_bit` meets its contract: specs/WordBytes.antt.
use Rattle.std.proofs.Common.{refl}
use Rattle.pair_words_core.specs.BackHalves.{exchanged_lt}
use Rattle.pair_words_core.specs.WordBytes.{front_bit_is}
use Rattle.pair_words_core.proofs.words.front_bit.Goals as goal

pub returns : goal.returns
returns c = (front_bit_is c.args.history.now c.args.w c.args.k c.xor16-a.result _ _ c.xor16-a.ensures.0 refl refl, exchanged_lt _ _)
