-- Counting places.
-- Assumes nothing.
use Rattle.std.specs.Prelude.{cond, ℕ, zero, suc, ◌+◌, eqb}

-- 0 where two numbers are equal, 1 where they differ.
unfoldable pub differs : ℕ → ℕ → ℕ
differs a b = cond (eqb a b) 0 1

-- f 0 + f 1 + .. + f (n - 1).
unfoldable pub count : ℕ → (ℕ → ℕ) → ℕ
count zero f = 0
count (suc n) f = count n f + f n

-- At how many places below n two words differ.
unfoldable pub distance : ℕ → (ℕ → ℕ) → (ℕ → ℕ) → ℕ
distance n x y = count n (λ k. differs (x k) (y k))
