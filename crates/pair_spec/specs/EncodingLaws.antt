-- How long a coded pair is.
-- Assumes nothing.
use Rattle.std.specs.Prelude.{◌≡◌, List, [], ℕ, length}
use Rattle.pair_spec.specs.PairLaws.{length_coded_pair}
use Rattle.pair_spec.specs.Encoding.{encoded}

module _ (n : ℕ) (h : List ℕ) (P : ℕ) (y : List ℕ) where
  pub length_encoded : length (encoded n h P y) ≡ 512
  unfolding encoded
  length_encoded = simp length_coded_pair
