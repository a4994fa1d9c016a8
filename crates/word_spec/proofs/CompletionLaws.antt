-- There is exactly one completion of 239 bits to a code word.
-- Assumes nothing.
use Rattle.std.specs.Prelude.{◌≡◌, refl, ℕ, zero, suc, ◌+◌, ◌-◌, ◌*◌, ◌/◌, ◌%◌, ◌^◌, ◌<◌, ◌≤◌, ltb}
use Rattle.std.proofs.Common.{sym, ◌∙◌, subst, mod-lt, zero-lt-suc, lt-ltb, le-ltb, lit<, lit≤, pow-add, pow_mono, pow_pos}
use Rattle.std.proofs.Math.Path.{ap, ap₂}
use Rattle.std.proofs.Math.Nat.{zero-div, div-eq_of_lt, div-div-eq-div-mul}
use native.Mathlib.Omega.{arith}
use Rattle.std.proofs.Math.Decide.{dec_lt}
use Rattle.bits.specs.Bits.{bit_of, from_bits}
use Rattle.bits.proofs.BitLaws.{from_bits_lt, from_bits_ext, from_bits_bit_of, bit_of_from_bits}
use Rattle.bits.specs.Count.{count}
use Rattle.bits.proofs.CountLaws.{count_ext, count_suc}
use Rattle.bits.proofs.TestLaws.{either}
use Rattle.bits.specs.Xor.{◌⊕◌}
use Rattle.bits.proofs.XorLaws.{⊕_self, ⊕_eq, ⊕_zero, zero_⊕}
use Rattle.gf256.specs.Polynomials.{reduce}
use Rattle.gf256.specs.Division.{reduce_low}
use Rattle.word_spec.specs.CodeWord.{Word, generator, remainder, parity, CodeWord}
use Rattle.word_spec.proofs.RemainderLaws.{BitsTo, remainder_lt, remainder_ext, added, added_bits, remainder_added}
use Rattle.word_spec.specs.Completion.{first_bits, with_remainder, completed}
use Rattle.word_spec.specs.Checks.{tail}

-- ---- the definitions, place by place

pub first_low : (w : Word) (k : ℕ) → k < 239 → first_bits w k ≡ w k
unfolding first_bits
first_low w k h = simp (lt-ltb k 239 h)

pub first_high : (w : Word) (k : ℕ) → 239 ≤ k → first_bits w k ≡ 0
unfolding first_bits
first_high w k h = simp (le-ltb k 239 h)

with_low : (w : Word) (k : ℕ) → k < 239 → with_remainder w k ≡ w k
unfolding with_remainder
with_low w k h = simp (lt-ltb k 239 h)

pub with_high : (w : Word) (k : ℕ) → 239 ≤ k → with_remainder w k ≡ remainder 255 (first_bits w) / 2 ^ (254 - k) % 2
unfolding with_remainder
with_high w k h = simp (le-ltb k 239 h)

pub completed_low : (w : Word) (k : ℕ) → k < 255 → completed w k ≡ with_remainder w k
unfolding completed
completed_low w k h = simp (lt-ltb k 255 h)

completed_last : (w : Word) (k : ℕ) → 255 ≤ k → completed w k ≡ count 255 (with_remainder w) % 2
unfolding completed
completed_last w k h = simp (le-ltb k 255 h)

pub completed_first : (w : Word) (k : ℕ) → k < 239 → completed w k ≡ w k
completed_first w k h = completed_low w k (omega arith) ∙ with_low w k h

-- ---- bits behind zeros: the register takes them in as they are

-- Of a word that is 0 below n, the register holds the bits from n on, while they are at most 16.
behind_zeros : (n : ℕ) (w : Word) → ((k : ℕ) → k < n → w k ≡ 0) → remainder n w ≡ 0
unfolding remainder
behind_zeros zero w z = refl
behind_zeros (suc n) w z =
    ap₂ (λ (s b : ℕ). reduce generator 16 (s * 2 + b)) (behind_zeros n w (λ k l. z k (omega arith))) (z n (omega arith))
    ∙ reduce_low generator 16 0 (lit< tt)

pub taken_in : (n m : ℕ) (w : Word) → ((k : ℕ) → k < n → w k ≡ 0) → m ≤ 16 → BitsTo (n + m) w
    → remainder (n + m) w ≡ from_bits m (λ i. w (n + i))
unfolding remainder from_bits
taken_in n zero w z l b = let e : n + 0 ≡ n = omega arith in ap (λ k. remainder k w) e ∙ behind_zeros n w z
taken_in n (suc m) w z l b =
    let e : n + suc m ≡ suc (n + m) = omega arith in
    let d : w (n + m) ≡ w (n + m) % 2 = omega (arith, b (n + m) (omega arith)) in
    ap (λ k. remainder k w) e
    ∙ ap (λ s. reduce generator 16 (s * 2 + w (n + m))) (taken_in n m w z (omega arith) (λ k h. b k (omega arith)))
    ∙ reduce_low generator 16 (from_bits m (λ i. w (n + i)) * 2 + w (n + m))
    (omega (arith, from_bits_lt (suc m) (λ i. w (n + i)), pow_mono {i = suc m} {j = 16} l, b (n + m) (omega arith)))
    ∙ ap (λ u. from_bits m (λ i. w (n + i)) * 2 + u) d

-- The register after 255 bits of which the first 239 are 0: the sixteen others.
last_sixteen : (w : Word) → ((k : ℕ) → k < 239 → w k ≡ 0) → BitsTo 255 w → remainder 255 w ≡ from_bits 16 (λ i. w (239 + i))
last_sixteen w z b = taken_in 239 16 w z (lit≤ tt) b

-- ---- check bits in their places

pub tail_low : (v k : ℕ) → k < 239 → tail v k ≡ 0
unfolding tail
tail_low v k h = simp (lt-ltb k 239 h)

pub tail_high : (v k : ℕ) → 239 ≤ k → tail v k ≡ v / 2 ^ (255 - k) % 2
unfolding tail
tail_high v k h = simp (le-ltb k 239 h)

pub tail_bits : (v k : ℕ) → tail v k < 2
unfolding tail
tail_bits v k = either (λ u. u < 2) (ltb k 239) _ _ (lit< tt) (mod-lt _ (zero-lt-suc 1))

pub tail_zero : (k : ℕ) → tail 0 k ≡ 0
unfolding tail
tail_zero k = either (λ u. u ≡ 0) (ltb k 239) _ _ refl (ap (λ u. u % 2) (zero-div (2 ^ (255 - k))))

-- The first sixteen are those of the half.
tail_half : (v k : ℕ) → 239 ≤ k → k < 255 → tail v k ≡ v / 2 / 2 ^ (254 - k) % 2
tail_half v k l h =
    let e : 255 - k ≡ 1 + (254 - k) = omega arith in
    tail_high v k l
    ∙ ap (λ u. v / u % 2) (ap (λ j. 2 ^ j) e ∙ pow-add 2 1 (254 - k))
    ∙ ap (λ u. u % 2) (sym (div-div-eq-div-mul v 2 (2 ^ (254 - k))))

pub tail_remainder : (v : ℕ) → v < 131072 → remainder 255 (tail v) ≡ v / 2
unfolding bit_of
tail_remainder v h =
    last_sixteen (tail v) (tail_low v) (λ k l. tail_bits v k)
    ∙ from_bits_ext 16 (λ i. tail v (239 + i)) (bit_of 16 (v / 2)) (λ i l. ap (λ u. u % 2) (tail_half v (239 + i) (omega arith) (omega arith) ∙ place i l))
    ∙ from_bits_bit_of 16 (v / 2) (omega arith)
  where
    place : (i : ℕ) → i < 16 → v / 2 / 2 ^ (254 - (239 + i)) % 2 ≡ bit_of 16 (v / 2) i
    place i l = let e : 254 - (239 + i) ≡ 16 - 1 - i = omega arith in ap (λ k. v / 2 / 2 ^ k % 2) e

-- ---- the completion is a code word

module _ (w : Word) (b : (k : ℕ) → k < 239 → w k < 2) where
  pub first_bits_lem : (k : ℕ) → first_bits w k < 2
  first_bits_lem k = go (dec_lt k 239)
    where
      go : Dec (k < 239) → first_bits w k < 2
      go (yes l) = rw (first_low w k l) (b k l)
      go (no n) = rw (first_high w k (omega arith)) (lit< tt)

  with_bits : (k : ℕ) → with_remainder w k < 2
  with_bits k = go (dec_lt k 239)
    where
      go : Dec (k < 239) → with_remainder w k < 2
      go (yes l) = rw (with_low w k l) (b k l)
      go (no n) = rw (with_high w k (omega arith)) (mod-lt _ (zero-lt-suc 1))

  rest : ℕ
  rest = remainder 255 (first_bits w)

  check : Word
  check = tail (rest * 2)

  split : (k : ℕ) → k < 255 → with_remainder w k ≡ added (first_bits w) check k
  unfolding added check rest
  split k h = go (dec_lt k 239)
    where
      half : rest * 2 / 2 ≡ rest
      half = omega arith

      go : Dec (k < 239) → with_remainder w k ≡ first_bits w k ⊕ check k
      go (yes l) = with_low w k l ∙ sym (ap₂ ◌⊕◌ (first_low w k l) (tail_low _ k l) ∙ ⊕_zero (w k))
      go (no n) =
          with_high w k (omega arith)
          ∙ sym (ap₂ ◌⊕◌ (first_high w k (omega arith)) (tail_half (rest * 2) k (omega arith) h ∙ ap (λ u. u / 2 ^ (254 - k) % 2) half) ∙ zero_⊕ _)

  with_divisible : remainder 255 (with_remainder w) ≡ 0
  unfolding check rest
  with_divisible =
      remainder_ext 255 (with_remainder w) (added (first_bits w) check) split
      ∙ remainder_added 255 (first_bits w) check (λ k l. first_bits_lem k) (λ k l. tail_bits _ k)
      ∙ ap (λ u. rest ⊕ u) (tail_remainder (rest * 2) (omega (arith, remainder_lt 255 (first_bits w) (λ k l. first_bits_lem k))) ∙ omega arith)
      ∙ ⊕_self rest

  pub completed_code : CodeWord (completed w)
  unfolding parity
  completed_code =
      record {
        bits = λ k l. by k (dec_lt k 255);
        divisible = remainder_ext 255 (completed w) (with_remainder w) (completed_low w) ∙ with_divisible;
        even = omega (arith, count_suc 255 (completed w), count_ext 255 (completed w) (with_remainder w) (completed_low w), completed_last w 255 (lit≤ tt));
      }
    where
      by : (k : ℕ) → Dec (k < 255) → completed w k < 2
      by k (yes l) = rw (completed_low w k l) (with_bits k)
      by k (no n) = rw (completed_last w k (omega arith)) (mod-lt _ (zero-lt-suc 1))

-- ---- and the only one

zero_bit : (i : ℕ) → bit_of 16 0 i ≡ 0
unfolding bit_of
zero_bit i = ap (λ u. u % 2) (div-eq_of_lt (pow_pos (16 - 1 - i)))

-- A word of bits that is 0 below 239 and divisible has no bit set below 255.
none_left : (d : Word) → BitsTo 255 d → ((k : ℕ) → k < 239 → d k ≡ 0) → remainder 255 d ≡ 0 → (i : ℕ) → i < 16 → d (239 + i) ≡ 0
none_left d b z e i l =
    let s : from_bits 16 (λ i. d (239 + i)) ≡ 0 = sym (last_sixteen d z b) ∙ e in
    let m : d (239 + i) % 2 ≡ 0 = sym (bit_of_from_bits 16 (λ i. d (239 + i)) i l) ∙ ap (λ u. bit_of 16 u i) s ∙ zero_bit i in
    omega (arith, b (239 + i) (omega arith))

module _ (c d : Word) (C : CodeWord c) (D : CodeWord d) (agree : (k : ℕ) → k < 239 → c k ≡ d k) where
  cb : BitsTo 255 c
  cb k l = C.bits k (omega arith)

  db : BitsTo 255 d
  db k l = D.bits k (omega arith)

  sum_zero : (i : ℕ) → i < 16 → added c d (239 + i) ≡ 0
  unfolding added
  sum_zero =
      none_left (added c d) (added_bits 255 c d cb db) (λ k l. ap (λ u. u ⊕ d k) (agree k l) ∙ ⊕_self (d k))
      (remainder_added 255 c d cb db ∙ ap₂ ◌⊕◌ C.divisible D.divisible ∙ zero_⊕ 0)

  agree_255 : (k : ℕ) → k < 255 → c k ≡ d k
  unfolding added
  agree_255 k l = go (dec_lt k 239)
    where
      go : Dec (k < 239) → c k ≡ d k
      go (yes h) = agree k h
      go (no n) =
          let e : 239 + (k - 239) ≡ k = omega arith in
          ⊕_eq (c k) (d k) (ap (λ i. c i ⊕ d i) (sym e) ∙ sum_zero (k - 239) (omega arith))

  pub same_completion : (k : ℕ) → k < 256 → c k ≡ d k
  unfolding parity
  same_completion k l = go (dec_lt k 255)
    where
      last : c 255 ≡ d 255
      last =
          omega (arith, count_suc 255 c, count_suc 255 d, count_ext 255 c d agree_255, C.even, D.even, C.bits 255 (lit< tt), D.bits 255 (lit< tt))

      go : Dec (k < 255) → c k ≡ d k
      go (yes h) = agree_255 k h
      go (no n) = let e : k ≡ 255 = omega arith in ap c e ∙ last ∙ ap d (sym e)

-- The completion is the only code word that begins with the 239 bits.
pub completed_only : (w c : Word) → CodeWord c → ((k : ℕ) → k < 239 → c k ≡ w k) → (k : ℕ) → k < 256 → c k ≡ completed w k
completed_only w c C e =
    same_completion c (completed w) C (completed_code w (λ k l. subst (λ u. u < 2) (e k l) (C.bits k (omega arith))))
    (λ k l. e k l ∙ sym (completed_first w k l))

-- It depends on the 239 bits alone.
pub completed_ext : (x y : Word) → ((k : ℕ) → k < 239 → x k ≡ y k) → (k : ℕ) → completed x k ≡ completed y k
completed_ext x y e k = go (dec_lt k 255)
  where
    first : (k : ℕ) → first_bits x k ≡ first_bits y k
    first k = by (dec_lt k 239)
      where
        by : Dec (k < 239) → first_bits x k ≡ first_bits y k
        by (yes l) = first_low x k l ∙ e k l ∙ sym (first_low y k l)
        by (no n) = first_high x k (omega arith) ∙ sym (first_high y k (omega arith))

    with_same : (k : ℕ) → with_remainder x k ≡ with_remainder y k
    with_same k = by (dec_lt k 239)
      where
        by : Dec (k < 239) → with_remainder x k ≡ with_remainder y k
        by (yes l) = with_low x k l ∙ e k l ∙ sym (with_low y k l)
        by (no n) =
            with_high x k (omega arith)
            ∙ ap (λ r. r / 2 ^ (254 - k) % 2) (remainder_ext 255 (first_bits x) (first_bits y) (λ j l. first j))
            ∙ sym (with_high y k (omega arith))

    go : Dec (k < 255) → completed x k ≡ completed y k
    go (yes l) = completed_low x k l ∙ with_same k ∙ sym (completed_low y k l)
    go (no n) =
        completed_last x k (omega arith) ∙ ap (λ n. n % 2) (count_ext 255 (with_remainder x) (with_remainder y) (λ j l. with_same j))
        ∙ sym (completed_last y k (omega arith))
