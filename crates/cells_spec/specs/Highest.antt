-- A number that a function of no byte of a buffer is above.
-- Assumes nothing.
use Rattle.std.specs.Prelude.{cond, List, ℕ, ◌<◌, ◌≤◌, length, get_or}
use Rattle.cells_spec.specs.Modulation.{Modulation}

-- Of none of the first i is f above top.
pub record Highest (f : ℕ → ℕ) (s : List ℕ) (i top : ℕ) : Type 0 where
  pub upto : i ≤ length s
  pub within : (k : ℕ) → k < i → f (get_or s k 0) ≤ top

-- 1 of an illegal byte of payload, and 0 of a legal one; where it is above 0 of none, every byte is legal.
unfoldable pub flaw : Modulation → ℕ → ℕ
flaw p v = cond (p.illegal v) 1 0
