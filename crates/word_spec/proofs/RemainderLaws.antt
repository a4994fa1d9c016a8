-- Laws of the remainder: it fits 16 bits, depends on the bits alone, and is linear.
-- Assumes nothing.
use Rattle.std.specs.Prelude.{◌≡◌, refl, List, [], ◌∷◌}
use Rattle.std.proofs.Common.{sym, ◌∙◌, subst, mul-one, lit<}
use Rattle.std.proofs.Math.Path.{ap, ap₂}
use Prim.Native.Nat.{ℕ, zero, suc, ◌+◌, ◌-◌, ◌*◌, ◌<◌, ◌≤◌}
use native.Mathlib.Omega.{arith}
use Rattle.bits.specs.Xor.{◌⊕◌, xor_sum}
use Rattle.bits.proofs.XorLaws.{⊕_lt, ⊕_four, ⊕_bit, zero_⊕, xor_sum_ext}
use Rattle.gf256.specs.Polynomials.{polynomial_number, reduce}
use Rattle.gf256.specs.Linear.{lin, units, lin_lt, Linear, lin_linear, bit_through, sum_through}
use Rattle.gf256.specs.Division.{step_linear}
use Rattle.word_spec.specs.CodeWord.{Word, generator, remainder}

-- A word of n bits.
abbrev pub BitsTo : ℕ → Word → Type 0
BitsTo n w = (k : ℕ) → k < n → w k < 2

-- The register as a linear map: y^i goes to y^(i+1), and y^15 to y^16, which is g without its y^16.
unfoldable pub shift_columns : List ℕ
shift_columns =
    2 ∷ 4 ∷ 8 ∷ 16 ∷ 32 ∷ 64 ∷ 128 ∷ 256 ∷ 512 ∷ 1024 ∷ 2048 ∷ 4096 ∷ 8192 ∷ 16384 ∷ 32768 ∷ 28515 ∷ []

unfoldable pub register_shift : ℕ → ℕ
register_shift s = lin shift_columns s

pub shift_linear : Linear register_shift
unfolding register_shift
shift_linear = lin_linear shift_columns

pub shift_lt : (s : ℕ) → register_shift s < 65536
unfolding register_shift shift_columns
shift_lt s = lin_lt 16 shift_columns tt s

-- One step of the register.
pub step_is : (s b : ℕ) → s < 65536 → b < 2 → reduce generator 16 (s * 2 + b) ≡ register_shift s ⊕ b
unfolding register_shift generator shift_columns lin units polynomial_number ◌⊕◌
step_is = step_linear generator shift_columns 15 refl refl

pub remainder_lt : (n : ℕ) (w : Word) → BitsTo n w → remainder n w < 65536
unfolding remainder
remainder_lt zero w b = lit< tt
remainder_lt (suc n) w b =
    let s = remainder n w in
    subst (λ u. u < 65536) (sym (step_is s (w n) (remainder_lt n w (λ k l. b k (omega arith))) (b n (omega arith))))
    (⊕_lt 16 (register_shift s) (w n) (shift_lt s) (omega (arith, b n (omega arith))))

pub remainder_next : (n : ℕ) (w : Word) → BitsTo (suc n) w → remainder (suc n) w ≡ register_shift (remainder n w) ⊕ w n
unfolding remainder
remainder_next n w b = step_is (remainder n w) (w n) (remainder_lt n w (λ k l. b k (omega arith))) (b n (omega arith))

pub remainder_ext : (n : ℕ) (x y : Word) → ((k : ℕ) → k < n → x k ≡ y k) → remainder n x ≡ remainder n y
unfolding remainder
remainder_ext zero x y e = refl
remainder_ext (suc n) x y e =
    ap₂ (λ (s b : ℕ). reduce generator 16 (s * 2 + b)) (remainder_ext n x y (λ k l. e k (omega arith))) (e n (omega arith))

-- The sum of two words, place by place.
unfoldable pub added : Word → Word → Word
added x y k = x k ⊕ y k

pub added_bits : (n : ℕ) (x y : Word) → BitsTo n x → BitsTo n y → BitsTo n (added x y)
unfolding added
added_bits n x y bx by k l = ⊕_bit (x k) (y k) (bx k l) (by k l)

pub remainder_added : (n : ℕ) (x y : Word) → BitsTo n x → BitsTo n y → remainder n (added x y) ≡ remainder n x ⊕ remainder n y
unfolding remainder added
remainder_added zero x y bx by = sym (zero_⊕ 0)
remainder_added (suc n) x y bx by =
    remainder_next n (added x y) (added_bits (suc n) x y bx by)
    ∙ ap (λ u. register_shift u ⊕ (x n ⊕ y n)) (remainder_added n x y (λ k l. bx k (omega arith)) (λ k l. by k (omega arith)))
    ∙ ap (λ u. u ⊕ (x n ⊕ y n)) (shift_linear.at_sum (remainder n x) (remainder n y))
    ∙ ⊕_four (register_shift (remainder n x)) (register_shift (remainder n y)) (x n) (y n)
    ∙ ap₂ ◌⊕◌ (sym (remainder_next n x bx)) (sym (remainder_next n y by))

-- A linear map e of the remainder that turns the register's step into the map f is the sum, over the places, of the entries of a
-- table that starts with e 1 and whose step is f: q 0 = e 1, q 1 = f (q 0), .., q m.
module _ {e f : ℕ → ℕ} (E : Linear e) (F : Linear f) (steps : (s : ℕ) → e (register_shift s) ≡ f (e s)) (q : ℕ → ℕ) (first : e 1 ≡ q 0)
    (m : ℕ) (next : (j : ℕ) → j < m → f (q j) ≡ q (suc j)) where
  one_more : (n : ℕ) (w : Word) → n ≤ m → BitsTo n w → f (xor_sum n (λ k. w k * q (n - suc k))) ≡ xor_sum n (λ k. w k * q (suc n - suc k))
  one_more n w h b =
      sum_through F n (λ k. w k * q (n - suc k))
      ∙ xor_sum_ext n (λ k. f (w k * q (n - suc k))) (λ k. w k * q (suc n - suc k))
      (λ k l.
      let up : suc (n - suc k) ≡ suc n - suc k = omega arith in
      bit_through F (w k) (q (n - suc k)) (b k l) ∙ ap (λ u. w k * u) (next (n - suc k) (omega arith) ∙ ap q up))

  pub evaluated : (n : ℕ) (w : Word) → n ≤ suc m → BitsTo n w → e (remainder n w) ≡ xor_sum n (λ k. w k * q (n - suc k))
  unfolding remainder xor_sum
  evaluated zero w h b = E.at_zero
  evaluated (suc n) w h b =
      let low : BitsTo n w = λ k l. b k (omega arith) in
      let none : 0 ≡ suc n - suc n = omega arith in
      ap e (remainder_next n w b) ∙ E.at_sum (register_shift (remainder n w)) (w n)
      ∙ ap₂ ◌⊕◌ (steps (remainder n w) ∙ ap f (evaluated n w (omega arith) low) ∙ one_more n w (omega arith) low)
      (ap e (sym (mul-one (w n))) ∙ bit_through E (w n) 1 (b n (omega arith)) ∙ ap (λ u. w n * u) (first ∙ ap q none))
