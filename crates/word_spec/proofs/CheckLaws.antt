-- Laws of the check bits: the rule of their table; added in their places they make a word a code word, and they have its syndromes.
-- Assumes nothing.
use Rattle.std.specs.Prelude.{◌≡◌, refl}
use Rattle.std.proofs.Math.Path.{sym, ap, ap₂}
use Rattle.std.proofs.Common.{◌∙◌}
use Prim.Native.Nat.{ℕ, zero, suc, ◌+◌, ◌-◌, ◌*◌, ◌/◌, ◌%◌, ◌^◌, ◌<◌}
use Rattle.std.proofs.Math.Nat.{mul-one}
use native.Mathlib.Omega.{arith}
use Rattle.std.proofs.Math.ListN.{get_or}
use Rattle.bits.specs.Tests.{agree}
use Rattle.bits.specs.Count.{count}
use Rattle.bits.specs.Xor.{◌⊕◌, xor_sum}
use Rattle.bits.proofs.XorLaws.{⊕_half, ⊕_mod, ⊕_shr, ⊕_self, ⊕_eq, zero_⊕, bits_⊕_times, xor_sum_ext, xor_sum_⊕, xor_sum_none, xor_sum_split}
use Rattle.bits.proofs.XorLaws.{xor_sum_reverse}
use Rattle.gf256.specs.Linear.{lin, Linear, additive, same, bit_through, sum_through}
use Rattle.gf256.specs.Field.{cube}
use Rattle.word_spec.specs.CodeWord.{Word, remainder, parity, CodeWord}
use Rattle.word_spec.proofs.RemainderLaws.{BitsTo, register_shift, shift_columns, shift_linear, evaluated, remainder_lt, added}
use Rattle.word_spec.proofs.RemainderLaws.{added_bits, remainder_added}
use Rattle.word_spec.proofs.CompletionLaws.{tail_low, tail_high, tail_bits, tail_remainder}
use Rattle.word_spec.specs.Syndromes.{locator, S1, S3, syndromes_of}
use Rattle.word_spec.proofs.SyndromeLaws.{last_zero, code_S1, code_S3}
use Rattle.word_spec.specs.declared.Syndromes.{Syndromes}
use Rattle.word_spec.specs.Checks.{checks, check, tail}

-- ---- the rule of the table, computed over all of it

-- Without its last bit an entry is the step before, shifted,
step : (j : ℕ) → j < 254 → get_or checks (suc (suc j)) 0 / 2 ≡ register_shift (get_or checks (suc j) 0 / 2)
unfolding checks register_shift shift_columns lin ◌⊕◌
step = agree 254 (λ j. get_or checks (suc (suc j)) 0 / 2) (λ j. register_shift (get_or checks (suc j) 0 / 2)) tt

first : get_or checks 1 0 / 2 ≡ 1
unfolding checks
first = refl

last : get_or checks 0 0 / 2 ≡ 0
unfolding checks
last = refl

-- and with it the number of bits set is odd.
ones : ℕ → ℕ
ones v = xor_sum 17 (λ i. v / 2 ^ i % 2)

odd : (i : ℕ) → i < 256 → ones (get_or checks i 0) ≡ 1
unfolding checks ones xor_sum ◌⊕◌
odd = agree 256 (λ i. ones (get_or checks i 0)) (λ i. 1) tt

-- ---- the remainder and the parity are read off the check bits

half_linear : Linear (λ x. x / 2)
half_linear = additive (λ x. x / 2) ⊕_half

ones_linear : Linear ones
unfolding ones
ones_linear =
    additive (λ v. xor_sum 17 (λ i. v / 2 ^ i % 2))
    (λ x y.
    xor_sum_ext 17 (λ i. (x ⊕ y) / 2 ^ i % 2) (λ i. (x / 2 ^ i % 2) ⊕ (y / 2 ^ i % 2))
    (λ i l. ap (λ u. u % 2) (⊕_shr x y i) ∙ ⊕_mod (x / 2 ^ i) (y / 2 ^ i))
    ∙ xor_sum_⊕ 17 (λ i. x / 2 ^ i % 2) (λ i. y / 2 ^ i % 2))

module _ (w : Word) (b : BitsTo 256 w) where
  low : BitsTo 255 w
  low k l = b k (omega arith)

  half_check : check w / 2 ≡ remainder 255 w
  unfolding check
  half_check =
      sum_through half_linear 256 (λ k. w k * get_or checks (255 - k) 0)
      ∙ xor_sum_ext 256 (λ k. w k * get_or checks (255 - k) 0 / 2) (λ k. w k * (get_or checks (255 - k) 0 / 2))
      (λ k l. bit_through half_linear (w k) (get_or checks (255 - k) 0) (b k l))
      ∙ last_zero w (λ k. get_or checks (255 - k) 0 / 2) (λ k. get_or checks (suc (255 - suc k)) 0 / 2) last
      (λ k l. let e : 255 - k ≡ suc (255 - suc k) = omega arith in ap (λ i. get_or checks i 0 / 2) e)
      ∙ sym
      (evaluated same shift_linear (λ s. refl) (λ j. get_or checks (suc j) 0 / 2) (sym first) 254 (λ j l. sym (step j l)) 255 w (omega arith) low)

  ones_check : ones (check w) ≡ xor_sum 256 w
  unfolding check
  ones_check =
      sum_through ones_linear 256 (λ k. w k * get_or checks (255 - k) 0)
      ∙ xor_sum_ext 256 (λ k. ones (w k * get_or checks (255 - k) 0)) w
      (λ k l. bit_through ones_linear (w k) (get_or checks (255 - k) 0) (b k l) ∙ ap (λ u. w k * u) (odd (255 - k) (omega arith)) ∙ mul-one (w k))

  pub check_lt : check w < 131072
  check_lt = omega (arith, half_check, remainder_lt 255 w low)

-- The parity as a sum.
bit_sum : (x y : ℕ) → x < 2 → y < 2 → (x + y) % 2 ≡ x ⊕ y
unfolding ◌⊕◌
bit_sum zero zero hx hy = refl
bit_sum zero (suc zero) hx hy = refl
bit_sum (suc zero) zero hx hy = refl
bit_sum (suc zero) (suc zero) hx hy = refl
bit_sum zero (suc (suc y)) hx hy = absurd (omega arith)
bit_sum (suc zero) (suc (suc y)) hx hy = absurd (omega arith)
bit_sum (suc (suc x)) y hx hy = absurd (omega arith)

pub parity_sum : (n : ℕ) (w : Word) → BitsTo n w → count n w % 2 ≡ xor_sum n w
unfolding count xor_sum
parity_sum zero w b = refl
parity_sum (suc n) w b =
    let e = parity_sum n w (λ k l. b k (omega arith)) in
    let m : (count n w + w n) % 2 ≡ (count n w % 2 + w n) % 2 = omega arith in
    m ∙ bit_sum (count n w % 2) (w n) (omega arith) (b n (omega arith)) ∙ ap (λ u. u ⊕ w n) e

-- ---- the check bits in their places

tail_ones : (v : ℕ) → xor_sum 256 (tail v) ≡ ones v
unfolding ones
tail_ones v =
    xor_sum_split 239 17 (tail v) ∙ ap (λ u. u ⊕ xor_sum 17 (λ i. tail v (239 + i))) (xor_sum_none 239 (tail v) (tail_low v)) ∙ zero_⊕ (xor_sum 17 (λ i. tail v (239 + i)))
    ∙ xor_sum_reverse 17 (λ i. tail v (239 + i)) (λ i. v / 2 ^ i % 2)
    (λ i j e. let d : 255 - (239 + i) ≡ j = omega arith in tail_high v (239 + i) (omega arith) ∙ ap (λ n. v / 2 ^ n % 2) d)

-- ---- with its check bits added a word is a code word, and they have its syndromes

module _ (w : Word) (b : BitsTo 256 w) where
  ends : BitsTo 256 (tail (check w))
  ends k l = tail_bits (check w) k

  pub checked_code : CodeWord (added w (tail (check w)))
  unfolding parity added
  checked_code =
      record {
        bits = added_bits 256 w (tail (check w)) b ends;
        divisible = remainder_added 255 w (tail (check w)) (λ k l. b k (omega arith)) (λ k l. ends k (omega arith))
            ∙ ap₂ ◌⊕◌ (sym (half_check w b))
            (tail_remainder (check w) (check_lt w b))
            ∙ ⊕_self (check w / 2);
        even = parity_sum 256 (λ k. w k ⊕ tail (check w) k) (added_bits 256 w (tail (check w)) b ends)
            ∙ xor_sum_⊕ 256 w (tail (check w)) ∙ ap₂ ◌⊕◌ (sym (ones_check w b)) (tail_ones (check w)) ∙ ⊕_self (ones (check w));
      }

  sum_added : (q : ℕ → ℕ)
      → xor_sum 256 (λ k. added w (tail (check w)) k * q k) ≡ xor_sum 256 (λ k. w k * q k) ⊕ xor_sum 256 (λ k. tail (check w) k * q k)
  unfolding added
  sum_added q =
      xor_sum_ext 256 (λ k. (w k ⊕ tail (check w) k) * q k) (λ k. w k * q k ⊕ tail (check w) k * q k)
      (λ k l. bits_⊕_times (w k) (tail (check w) k) (q k) (b k l) (ends k l))
      ∙ xor_sum_⊕ 256 (λ k. w k * q k) (λ k. tail (check w) k * q k)

  pub check_syndromes : syndromes_of (tail (check w)) ≡ syndromes_of w
  unfolding syndromes_of S1 S3 parity
  check_syndromes =
      eq (⊕_eq _ _ (sym (sum_added locator) ∙ code_S1 (added w (tail (check w))) checked_code))
      (⊕_eq _ _ (sym (sum_added (λ k. cube (locator k))) ∙ code_S3 (added w (tail (check w))) checked_code))
      (parity_sum 256 w b ∙ sym (ones_check w b) ∙ sym (tail_ones (check w)) ∙ sym (parity_sum 256 (tail (check w)) ends))
    where
      made : ℕ → ℕ → ℕ → Syndromes
      made x y p = record { s1 = x; s3 = y; parity = p }

      eq : {x x' y y' p p' : ℕ} → x ≡ x' → y ≡ y' → p ≡ p' → made x' y' p' ≡ made x y p
      eq e f g = rw (e, f, g)
