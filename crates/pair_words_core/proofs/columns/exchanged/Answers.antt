-- `pair_words_core::columns::exchanged` meets its contract: eight bits.
use Rattle.std.proofs.Common.{◌<◌, rules}
use Rattle.bits.specs.Bits.{bit_of}
use Rattle.bits.specs.Xor.{◌⊕◌}
use Rattle.bits.proofs.XorLaws.{⊕_lt}
use Rattle.pair_words_core.proofs.columns.exchanged.Goals as goal

pub byte_from-requires : goal.byte_from-requires
unfolding ◌⊕◌
byte_from-requires c = λ i h. let k : i ⊕ c.args.l < 8 = ⊕_lt 3 i c.args.l h c.requires in search rules

pub returns : goal.returns
unfolding ◌⊕◌ bit_of
returns c = c.byte_from.ensures _ (λ i r h e. search rules)
