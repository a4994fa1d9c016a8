-- How long the newest pair is.
-- Assumes nothing.
use Rattle.std.specs.Prelude.{◌≡◌, List, ℕ, length}
use Rattle.pair_spec.specs.PairLaws.{length_coded_pair}
use Rattle.pair_spec.specs.Receiving.{repaired_word, newest_pair}

module _ (n : ℕ) (h : List ℕ) (P : ℕ) (p : List ℕ) where
  pub length_newest : length (newest_pair n h P p) ≡ 512
  unfolding newest_pair
  length_newest = length_coded_pair (repaired_word n h P p)
