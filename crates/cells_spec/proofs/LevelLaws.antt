-- Laws of levels: the tables that the code reads, and the arithmetic on a level.
-- Assumes nothing.
use Rattle.std.specs.Prelude.{◌≡◌, refl, List, [], ◌∷◌, ℕ, zero, suc, ◌+◌, ◌*◌, ◌/◌, ◌%◌, ◌<◌, T, ltb, eqb, ℤ, pos, negsuc, nat_abs, ◌+ℤ◌, get_or}
use Rattle.std.proofs.Common.{arith, ltb→lt, lit<, SFits, to_z, of_z}
use Rattle.std.specs.Int.Signed.{non_neg}
use Rattle.std.specs.Int.{w8}
use Rattle.bits.specs.Tests.{agree, each}
use Rattle.bits.proofs.TestLaws.{either}
use Rattle.cells_spec.specs.Levels.{level, Level, minus_three, minus_one, plus_three, plus_one, ordinal, rails}
use Rattle.cells_spec.specs.Qam16Inverse.{level_at, first_bit, second_bit}

-- What holds of the four levels holds of each.
on_levels : (P : ℤ → Type 0) → P (negsuc 2) → P (negsuc 0) → P (pos 3) → P (pos 1) → {l : ℤ} → Level l → P l
on_levels P a b c d minus_three = a
on_levels P a b c d minus_one = b
on_levels P a b c d plus_three = c
on_levels P a b c d plus_one = d

-- ---- the arithmetic of (l + 3) / 2

pub level_fits : {l : ℤ} → Level l → SFits w8 (l +ℤ pos 3)
level_fits = on_levels (λ l. SFits w8 (l +ℤ pos 3)) (record { sfits = lit< tt }) (record { sfits = lit< tt }) (record { sfits = lit< tt }) (record { sfits = lit< tt })

pub level_nonneg : {l : ℤ} → Level l → T (non_neg (l +ℤ pos 3))
level_nonneg = on_levels (λ l. T (non_neg (l +ℤ pos 3))) tt tt tt tt

pub level_small : {l : ℤ} → Level l → nat_abs (l +ℤ pos 3) < 256
level_small = on_levels (λ l. nat_abs (l +ℤ pos 3) < 256) (lit< tt) (lit< tt) (lit< tt) (lit< tt)

pub ordinal_lt : {l : ℤ} → Level l → nat_abs (l +ℤ pos 3) / 2 < 4
ordinal_lt = on_levels (λ l. nat_abs (l +ℤ pos 3) / 2 < 4) (lit< tt) (lit< tt) (lit< tt) (lit< tt)

pub ruleset by_level = (level_fits, level_nonneg, level_small, ordinal_lt)

-- The byte of two levels, from their ordinals.
pub rails_is : (i q a b : ℤ) (m n : ℕ) → m ≡ ordinal a → n ≡ ordinal b → a ≡ i → b ≡ q → 4 * m + n ≡ rails i q
unfolding rails
rails_is i q a b m n em en ea eb = rw (em, en, ea, eb)

-- ---- the two tables, as the code reads them

abbrev levels : List ℤ
levels = negsuc 2 ∷ negsuc 0 ∷ pos 3 ∷ pos 1 ∷ []

pub level_read : (a b : ℕ) → a < 2 → b < 2
    → (to_z w8 (of_z w8 (get_or levels (a * 2 + b) (pos 0))) ≡ level a b) × Level (to_z w8 (of_z w8 (get_or levels (a * 2 + b) (pos 0))))
unfolding level
level_read zero zero ha hb = (refl, minus_three)
level_read zero (suc zero) ha hb = (refl, minus_one)
level_read (suc zero) zero ha hb = (refl, plus_three)
level_read (suc zero) (suc zero) ha hb = (refl, plus_one)
level_read zero (suc (suc b)) ha hb = absurd (omega arith)
level_read (suc zero) (suc (suc b)) ha hb = absurd (omega arith)
level_read (suc (suc a)) b ha hb = absurd (omega arith)

abbrev bit_pairs : List ℕ
bit_pairs = 0 ∷ 1 ∷ 3 ∷ 2 ∷ []

pub bit_pair_read : (k : ℕ) → k < 4
    → (get_or bit_pairs k 0 / 2 ≡ first_bit (level_at k)) × (get_or bit_pairs k 0 % 2 ≡ second_bit (level_at k)) × (get_or bit_pairs k 0 < 4)
unfolding first_bit second_bit level_at
bit_pair_read k h = (
  agree 4 (λ i. get_or bit_pairs i 0 / 2) (λ i. first_bit (level_at i)) tt k h,
  agree 4 (λ i. get_or bit_pairs i 0 % 2) (λ i. second_bit (level_at i)) tt k h,
  ltb→lt (get_or bit_pairs k 0) 4 (each 4 (λ i. ltb (get_or bit_pairs i 0) 4) tt k h),
)

-- ---- any level

pub level_is : (a b : ℕ) → Level (level a b)
unfolding level
level_is zero zero = minus_three
level_is zero (suc b) = minus_one
level_is (suc a) zero = plus_three
level_is (suc a) (suc b) = plus_one

pub ordinal_below : {l : ℤ} → Level l → ordinal l < 4
unfolding ordinal
ordinal_below = ordinal_lt

-- ---- bits are 0 or 1

pub first_bit_lt : (l : ℤ) → first_bit l < 2
unfolding first_bit
first_bit_lt (pos n) = lit< tt
first_bit_lt (negsuc n) = lit< tt

pub second_bit_lt : (l : ℤ) → second_bit l < 2
unfolding second_bit
second_bit_lt l = either (λ v. v < 2) (eqb (nat_abs l) 1) 1 0 (lit< tt) (lit< tt)
