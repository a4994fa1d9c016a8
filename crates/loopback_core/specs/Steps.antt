-- Steps one after the other, as a loop makes them.
-- Assumes nothing.
use Rattle.std.specs.Prelude.{ℕ, zero, suc, List}

-- What n steps make of a buffer: step 0, then step 1, and so on.
unfoldable pub each_step : ℕ → (ℕ → List ℕ → List ℕ) → List ℕ → List ℕ
each_step zero step d = d
each_step (suc n) step d = step n (each_step n step d)
