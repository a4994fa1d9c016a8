-- The parities of all words from the sum of all their bits.
-- Assumes nothing.
use Rattle.std.specs.Prelude.{◌≡◌, refl, Bool, List, ℕ, zero, suc, ◌+◌, ◌-◌, ◌*◌, ◌/◌, ◌%◌, ◌<◌, ltb}
use Rattle.std.proofs.Math.Path.{sym, ap, ap₂}
use Rattle.std.proofs.Common.{◌∙◌, lt-ltb, le-ltb}
use Rattle.std.proofs.Math.Bool.{true, false, cond}
use native.Mathlib.Omega.{arith}
use Rattle.std.proofs.Math.Decide.{dec_lt}
use Rattle.std.proofs.Math.ListN.{get_or}
use Rattle.bits.specs.Bits.{bit_of}
use Rattle.bits.proofs.BitLaws.{bit_of_lt}
use Rattle.bits.specs.Count.{count}
use Rattle.bits.specs.Xor.{◌⊕◌, xor_sum}
use Rattle.bits.proofs.XorLaws.{xor_sum_ext, xor_sum_⊕, xor_sum_split, xor_sum_exchange}
use Rattle.gf256.specs.Linear.{Linear, additive, sum_through}
use Rattle.word_spec.specs.CodeWord.{Word, parity}
use Rattle.networks_spec.proofs.NetworkLaws.{bit_of_⊕}
use Rattle.gathering_spec.specs.Sums.{bit_in, word_in, both_rows, Parities}
use Rattle.gathering_spec.proofs.SumLaws.{xor_sum_blocks, front_bit_lem, back_bit_lem, upper_bit, lower_word}

bit_sum : (x y : ℕ) → x < 2 → y < 2 → (x + y) % 2 ≡ x ⊕ y
unfolding ◌⊕◌
bit_sum zero zero hx hy = refl
bit_sum zero (suc zero) hx hy = refl
bit_sum (suc zero) zero hx hy = refl
bit_sum (suc zero) (suc zero) hx hy = refl
bit_sum zero (suc (suc y)) hx hy = absurd (omega arith)
bit_sum (suc zero) (suc (suc y)) hx hy = absurd (omega arith)
bit_sum (suc (suc x)) y hx hy = absurd (omega arith)

pub parity_sum : (n : ℕ) (w : Word) → ((k : ℕ) → w k < 2) → count n w % 2 ≡ xor_sum n w
unfolding count xor_sum
parity_sum zero w b = refl
parity_sum (suc n) w b =
    let m : (count n w + w n) % 2 ≡ (count n w % 2 + w n) % 2 = omega arith in
    m ∙ bit_sum (count n w % 2) (w n) (omega arith) (b n) ∙ ap (λ u. u ⊕ w n) (parity_sum n w b)

bit_linear : (r : ℕ) → Linear (λ v. bit_of 16 v r)
bit_linear r = additive (λ v. bit_of 16 v r) (λ a b. bit_of_⊕ 16 a b r)

module _ (x y : List ℕ) (r : ℕ) where
  word_bit : (k : ℕ) → word_in x y r k < 2
  unfolding word_in bit_in
  word_bit k = go (ltb k 128)
    where
      go : (b : Bool) → cond b (bit_of 16 (get_or x (8 * (k % 16) + k / 16) 0) r) (bit_of 16 (get_or y (8 * (k % 16) + (k - 128) / 16) 0) r) < 2
      go true = bit_of_lt 16 (get_or x (8 * (k % 16) + k / 16) 0) r
      go false = bit_of_lt 16 (get_or y (8 * (k % 16) + (k - 128) / 16) 0) r

  -- All bits of a half, row by row or block by block.
  across : (u : List ℕ) (f : ℕ → ℕ) → ((C j : ℕ) → C < 8 → j < 16 → f (C * 16 + j) ≡ bit_in u j C r) → xor_sum 128 (λ n. bit_of 16 (get_or u n 0) r) ≡ xor_sum 128 f
  unfolding bit_in
  across u f e =
      xor_sum_blocks 16 8 (λ n. bit_of 16 (get_or u n 0) r)
      ∙ xor_sum_exchange 16 8 (λ j C. bit_of 16 (get_or u (j * 8 + C) 0) r)
      ∙ xor_sum_ext 8 (λ C. xor_sum 16 (λ j. bit_of 16 (get_or u (j * 8 + C) 0) r)) (λ C. xor_sum 16 (λ j. f (C * 16 + j)))
      (λ C lC. xor_sum_ext 16 (λ j. bit_of 16 (get_or u (j * 8 + C) 0) r) (λ j. f (C * 16 + j))
      (λ j lj. let q : j * 8 + C ≡ 8 * j + C = omega arith in ap (λ n. bit_of 16 (get_or u n 0) r) q ∙ sym (e C j lC lj)))
      ∙ sym (xor_sum_blocks 8 16 f)

  summed : bit_of 16 (xor_sum 128 (λ n. get_or x n 0 ⊕ get_or y n 0)) r ≡ parity (word_in x y r)
  unfolding parity
  summed =
      sum_through (bit_linear r) 128 (λ n. get_or x n 0 ⊕ get_or y n 0)
      ∙ xor_sum_ext 128 (λ n. bit_of 16 (get_or x n 0 ⊕ get_or y n 0) r) (λ n. bit_of 16 (get_or x n 0) r ⊕ bit_of 16 (get_or y n 0) r) (λ n l. bit_of_⊕ 16 (get_or x n 0) (get_or y n 0) r)
      ∙ xor_sum_⊕ 128 (λ n. bit_of 16 (get_or x n 0) r) (λ n. bit_of 16 (get_or y n 0) r)
      ∙ ap₂ ◌⊕◌ (across x (word_in x y r) (front_bit_lem x y r)) (across y (λ k. word_in x y r (128 + k)) (back_bit_lem x y r))
      ∙ sym (xor_sum_split 128 128 (word_in x y r)) ∙ sym (parity_sum 256 (word_in x y r) word_bit)

pub parities : (x0 y0 x1 y1 : List ℕ) (p q r : ℕ) → p ≡ xor_sum 128 (λ n. get_or x0 n 0 ⊕ get_or y0 n 0) → q ≡ xor_sum 128 (λ n. get_or x1 n 0 ⊕ get_or y1 n 0)
    → r ≡ p * 65536 + q % 65536 → Parities (both_rows (word_in x0 y0) (word_in x1 y1)) r
unfolding both_rows
parities x0 y0 x1 y1 p q r ep eq er = record { parity_of = λ w lw. ap (λ u. bit_of 32 u w) er ∙ go w lw (dec_lt w 16) }
  where
    go : (w : ℕ) → w < 32 → Dec (w < 16) → bit_of 32 (p * 65536 + q % 65536) w ≡ parity (cond (ltb w 16) (word_in x0 y0 w) (word_in x1 y1 (w - 16)))
    go w lw (yes l) = upper_bit 16 p q w l ∙ simp (lt-ltb w 16 l) (ap (λ u. bit_of 16 u w) ep ∙ summed x0 y0 w)
    go w lw (no l) =
        lower_word p q w (omega arith) lw ∙ simp (le-ltb w 16 (omega arith)) (ap (λ u. bit_of 16 u (w - 16)) eq ∙ summed x1 y1 (w - 16))
