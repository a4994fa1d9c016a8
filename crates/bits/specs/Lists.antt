-- Lists given by a function of the index.
-- Assumes nothing.
use Rattle.std.specs.Prelude.{List, [], ◌∷◌, ℕ, zero, suc}

-- The n values f 0, f 1, .., f (n - 1).
unfoldable pub tabulate : {A : Type 0} → ℕ → (ℕ → A) → List A
tabulate zero f = []
tabulate (suc n) f = let first = f zero in first ∷ tabulate n (λ k. f (suc k))
