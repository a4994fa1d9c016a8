-- Laws of quotient and remainder by any number w above 0, not only by a numeral: places of w in a row, and place b of group a.
-- Assumes nothing.
use Rattle.std.specs.Prelude.{◌≡◌, ℕ, zero, suc, ◌+◌, ◌*◌, ◌/◌, ◌%◌, ◌<◌}
use Rattle.std.proofs.Common.{◌∙◌, zero-mul, suc-mul, mod-eq_of_lt, mod-lt, div-add-mod', mul-le-mul_right, lt_of_mul-lt-mul_right, arith}
use Rattle.std.proofs.Math.Nat.{mul-add-div_right, mul-add-mod_self_right, div-eq_of_lt}

-- A factor of a number above 0.
pub factor_pos : (w m n : ℕ) → w * m ≡ n → 0 < n → 0 < w
factor_pos zero m n e l = absurd (omega (arith, zero-mul m))
factor_pos (suc w) m n e l = omega arith

module _ (w : ℕ) (pos : 0 < w) where
  pub digit_lt : (n : ℕ) → n % w < w
  digit_lt n = mod-lt n pos

  pub digits : (n : ℕ) → n / w * w + n % w ≡ n
  digits n = div-add-mod' n w

  pub group_of : (a b : ℕ) → b < w → (a * w + b) / w ≡ a
  group_of a b l = mul-add-div_right pos a b ∙ omega (arith, div-eq_of_lt l)

  pub place_of : (a b : ℕ) → b < w → (a * w + b) % w ≡ b
  place_of a b l = mul-add-mod_self_right a w b ∙ mod-eq_of_lt l

  -- m groups of w, and the places in them.
  pub place_lt : (a b m : ℕ) → a < m → b < w → a * w + b < m * w
  place_lt a b m la lb = omega (arith, mul-le-mul_right w la, suc-mul a w)

  pub group_lt : (n m : ℕ) → n < m * w → n / w < m
  group_lt n m l = lt_of_mul-lt-mul_right w (omega (arith, digits n))
