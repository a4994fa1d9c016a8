-- Polynomials over GF(2), in y.
-- Assumes nothing.
use Rattle.std.specs.Prelude.{cond, List, [], ◌∷◌, ℕ, suc, ◌+◌, ◌-◌, ◌*◌, ◌^◌, eqb, ltb}
use Rattle.bits.specs.Xor.{◌⊕◌, xor_sum}

-- A polynomial is given by the powers of y that it has. Its coefficient of y^k:
unfoldable pub coefficient : List ℕ → ℕ → ℕ
coefficient [] k = 0
coefficient (p ∷ ps) k = cond (eqb p k) 1 (coefficient ps k)

-- It as a number whose bit k is the coefficient of y^k.
unfoldable pub polynomial_number : List ℕ → ℕ
polynomial_number [] = 0
polynomial_number (p ∷ ps) = 2 ^ p + polynomial_number ps

-- The coefficient of y^k in the product of two polynomials, written out: f 0 h k + f 1 h (k - 1) + .. + f k h 0 over GF(2).
unfoldable pub product : (ℕ → ℕ) → (ℕ → ℕ) → ℕ → ℕ
product f h k = xor_sum (suc k) (λ i. f i * h (k - i))

-- A step of long division: where y^d stands in t, the divisor p of degree d is taken away.
unfoldable pub reduce : List ℕ → ℕ → ℕ → ℕ
reduce p d t = cond (ltb t (2 ^ d)) t (t ⊕ polynomial_number p)
