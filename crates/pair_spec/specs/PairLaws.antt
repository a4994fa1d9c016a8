-- How long the pair is that 32 words make.
-- Assumes nothing.
use Rattle.std.specs.Prelude.{◌≡◌, ℕ, length}
use Rattle.bits.proofs.BitLaws.{length_pack}
use Rattle.word_spec.specs.CodeWord.{Word}
use Rattle.pair_spec.specs.Pairs.{laid_out, coded_index, coded_pair}

module _ (words : ℕ → Word) where
  pub length_coded_pair : length (coded_pair words) ≡ 512
  unfolding coded_pair
  length_coded_pair = length_pack 512 (laid_out 128 coded_index words)
