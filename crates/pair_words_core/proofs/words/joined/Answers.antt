-- `pair_words_core::words::joined` meets its contract.
use Rattle.std.proofs.Common.{refl, ◌∙◌, replicate}
use Rattle.pair_words_core.specs.WordBytes.{halves_joined}
use Rattle.pair_words_core.proofs.words.joined.Goals as goal

pub returns : goal.returns
returns c = λ f p q. halves_joined f (replicate 32 0) _ _ refl (c.copy_from_slice.ensures.after ∙ p) (c.copy_from_slice-2.ensures.after ∙ q)
