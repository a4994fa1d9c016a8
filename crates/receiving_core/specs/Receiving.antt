-- What code leaves of a pair with its repairs.
-- Assumes nothing.
use Rattle.std.specs.Prelude.{◌≡◌, List, ℕ, leb}
use Rattle.pair_spec.specs.History.{shift}
use Rattle.pair_words_core.specs.Halves.{payload_in}
use Rattle.mending_core.specs.Mending.{HandledAll}

-- What a pair with repairs leaves: marks, and payload and history from the words repaired.
pub record Repaired (t : List ℕ) (q d P : ℕ) (p s h y ms g : List ℕ) : Type 0 where
  pub halves : List ℕ
  pub coded : List ℕ
  pub handled : HandledAll t q d (leb 10 P) s p ms halves coded
  pub payload : y ≡ payload_in halves
  pub history : g ≡ shift h coded
