-- `pair_words_core::words::xor16` meets its contract.
use Rattle.std.proofs.Common.{refl}
use Rattle.bits.specs.Xor.{◌⊕◌}
use Rattle.bits.proofs.XorLaws.{⊕_lt}
use Rattle.pair_words_core.proofs.words.xor16.Goals as goal

pub returns : goal.returns
unfolding ◌⊕◌
returns c = (refl, ⊕_lt 4 c.args.a c.args.b c.requires.0 c.requires.1)
