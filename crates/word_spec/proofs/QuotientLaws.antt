-- The remainder is 0 exactly when there is a quotient; g is the product of the two factors that 01 names.
-- Assumes nothing.
use Rattle.std.specs.Prelude.{◌≡◌, refl, cond, List, [], ◌∷◌, ◌≢◌, T, ltb}
use Rattle.std.proofs.Math.Path.{sym, ap, ap₂, subst}
use Rattle.std.proofs.Common.{◌∙◌, mul-zero, div-one, lt-ltb, le-ltb, ne_eqb, ltb→lt, lit<, lit≤, pow_pos, shr-shr}
use Prim.Native.Nat.{ℕ, zero, suc, ◌+◌, ◌-◌, ◌*◌, ◌/◌, ◌%◌, ◌^◌, ◌<◌, ◌≤◌}
use Rattle.std.proofs.Math.Nat.{zero-mul, one-mul, mul-one, sub-zero, div-eq_of_lt, pow-suc}
use native.Mathlib.Omega.{arith}
use Rattle.std.proofs.Math.Decide.{ℕ_discrete, dec_lt}
use Rattle.std.proofs.Math.Pow.{pow_mono}
use Rattle.bits.specs.Bits.{bit_of, from_bits}
use Rattle.bits.proofs.BitLaws.{from_bits_lt, bit_of_equal}
use Rattle.bits.specs.Tests.{agree, both_left, both_right}
use Rattle.bits.specs.Xor.{◌⊕◌, xor_sum}
use Rattle.bits.proofs.XorLaws.{⊕_zero, zero_⊕, ⊕_shr, ⊕_mod, sums, bits_⊕_times, xor_sum_first, xor_sum_ext, xor_sum_⊕, xor_sum_none}
use Rattle.bits.proofs.XorLaws.{xor_sum_one}
use Rattle.gf256.specs.Polynomials.{coefficient, polynomial_number, product, reduce}
use Rattle.gf256.specs.Powers.{first_factor}
use Rattle.gf256.specs.Linear.{all_below}
use Rattle.gf256.specs.Division.{reduce_low, reduce_high}
use Rattle.word_spec.specs.CodeWord.{Word, generator, remainder}
use Rattle.word_spec.proofs.RemainderLaws.{BitsTo, remainder_lt}
use Rattle.word_spec.proofs.CompletionLaws.{taken_in}
use Rattle.word_spec.specs.Quotient.{Divisible, second_factor}

-- ---- the bits of a number as coefficients, the lowest first

at : ℕ → ℕ → ℕ
at x j = x / 2 ^ j % 2

at_⊕ : (x y j : ℕ) → at (x ⊕ y) j ≡ at x j ⊕ at y j
unfolding at
at_⊕ x y j = ap (λ u. u % 2) (⊕_shr x y j) ∙ ⊕_mod (x / 2 ^ j) (y / 2 ^ j)

at_first : (s b : ℕ) → b < 2 → at (s * 2 + b) 0 ≡ b
unfolding at
at_first s b h = ap (λ u. u % 2) (div-one (s * 2 + b)) ∙ omega arith

at_next : (s b j : ℕ) → b < 2 → at (s * 2 + b) (suc j) ≡ at s j
unfolding at
at_next s b j h =
    let e : 1 + j ≡ suc j = omega arith in
    ap (λ u. u % 2) (ap (λ k. (s * 2 + b) / 2 ^ k) (sym e) ∙ sym (shr-shr (s * 2 + b) 1 j) ∙ ap (λ u. u / 2 ^ j) half)
  where
    half : (s * 2 + b) / 2 ≡ s
    half = omega arith

at_times : (o x j : ℕ) → o < 2 → at (o * x) j ≡ o * at x j
unfolding at
at_times zero x j h = ap (λ u. u / 2 ^ j % 2) (zero-mul x) ∙ ap (λ u. u % 2) (div-eq_of_lt (pow_pos j)) ∙ sym (zero-mul (x / 2 ^ j % 2))
at_times (suc zero) x j h = ap (λ u. u / 2 ^ j % 2) (one-mul x) ∙ sym (one-mul (x / 2 ^ j % 2))
at_times (suc (suc o)) x j h = absurd (omega arith)

at_high : (x j : ℕ) → x < 65536 → 16 ≤ j → at x j ≡ 0
unfolding at
at_high x j h l = ap (λ u. u % 2) (div-eq_of_lt (omega (arith, pow_mono {i = 16} {j = j} l)))

at_lt : (x j : ℕ) → at x j < 2
unfolding at
at_lt x j = omega arith

-- ---- g

-- A polynomial of powers below m has no other.
coefficient_none : (ps : List ℕ) (m k : ℕ) → T (all_below m ps) → m ≤ k → coefficient ps k ≡ 0
unfolding coefficient
coefficient_none [] m k t l = refl
coefficient_none (p ∷ ps) m k t l =
    let h : p < m = ltb→lt p m (both_left (ltb p m) (all_below m ps) t) in
    let n : p ≢ k = omega arith in
    simp (ne_eqb p k n) (coefficient_none ps m k (both_right (ltb p m) (all_below m ps) t) l)

g : ℕ → ℕ
g j = coefficient generator j

g_at : (j : ℕ) → j < 255 → at (polynomial_number generator) j ≡ g j
unfolding at g polynomial_number generator coefficient
g_at = agree 255 (at (polynomial_number generator)) g tt

g_top : g 16 ≡ 1
unfolding g generator coefficient
g_top = refl

g_none : (j : ℕ) → 17 ≤ j → g j ≡ 0
unfolding g generator
g_none j l = coefficient_none generator 17 j tt l

-- ---- long division: the bits that fall out of the register are the quotient's

module _ (w : Word) (b : BitsTo 255 w) where
  -- What stands in the register before g is taken away, and whether it is.
  t : ℕ → ℕ
  t n = remainder n w * 2 + w n

  o : ℕ → ℕ
  o n = t n / 65536

  low : (n : ℕ) → n ≤ 255 → BitsTo n w
  low n l k h = b k (omega arith)

  t_lt : (n : ℕ) → n < 255 → t n < 131072
  unfolding t
  t_lt n l = omega (arith, remainder_lt n w (low n (omega arith)), b n l)

  o_lt : (n : ℕ) → n < 255 → o n < 2
  unfolding o
  o_lt n l = omega (arith, t_lt n l)

  next : (n : ℕ) → n < 255 → remainder (suc n) w ≡ t n ⊕ o n * polynomial_number generator
  unfolding remainder o t
  next n l = go (dec_lt (t n) 65536)
    where
      go : Dec (t n < 65536) → reduce generator 16 (t n) ≡ t n ⊕ t n / 65536 * polynomial_number generator
      go (yes h) =
          reduce_low generator 16 (t n) h
          ∙ sym (ap (λ u. t n ⊕ u) (ap (λ u. u * polynomial_number generator) (div-eq_of_lt h) ∙ zero-mul (polynomial_number generator)) ∙ ⊕_zero (t n))
      go (no h) =
          let one : t n / 65536 ≡ 1 = omega (arith, t_lt n l) in
          reduce_high generator 16 (t n) (omega arith)
          ∙ sym (ap (λ u. t n ⊕ u) (ap (λ u. u * polynomial_number generator) one ∙ one-mul (polynomial_number generator)))

  -- The quotient after n bits: its coefficient of y^i fell out i steps before the last.
  Q : ℕ → ℕ → ℕ
  Q n i = cond (ltb i n) (o (n - suc i)) 0

  Q_in : (n i : ℕ) → i < n → Q n i ≡ o (n - suc i)
  unfolding Q
  Q_in n i h = simp (lt-ltb i n h)

  Q_out : (n i : ℕ) → n ≤ i → Q n i ≡ 0
  unfolding Q
  Q_out n i h = simp (le-ltb i n h)

  Q_first : (n : ℕ) → Q (suc n) 0 ≡ o n
  Q_first n = let e : suc n - 1 ≡ n = omega arith in Q_in (suc n) 0 (omega arith) ∙ ap o e

  Q_next : (n i : ℕ) → Q (suc n) (suc i) ≡ Q n i
  Q_next n i = go (dec_lt i n)
    where
      go : Dec (i < n) → Q (suc n) (suc i) ≡ Q n i
      go (yes h) = let e : suc n - suc (suc i) ≡ n - suc i = omega arith in Q_in (suc n) (suc i) (omega arith) ∙ ap o e ∙ sym (Q_in n i h)
      go (no h) = Q_out (suc n) (suc i) (omega arith) ∙ sym (Q_out n i (omega arith))

  product_first : (n : ℕ) → product (Q (suc n)) g 0 ≡ o n * g 0
  unfolding product xor_sum
  product_first n = zero_⊕ _ ∙ ap (λ u. u * g 0) (Q_first n)

  product_next : (n j : ℕ) → product (Q (suc n)) g (suc j) ≡ o n * g (suc j) ⊕ product (Q n) g j
  unfolding product
  product_next n j =
      xor_sum_first (suc j) (λ i. Q (suc n) i * g (suc j - i))
      ∙ ap₂ ◌⊕◌ (ap₂ (λ (x y : ℕ). x * g y) (Q_first n) (sub-zero (suc j)))
      (xor_sum_ext (suc j) (λ i. Q (suc n) (suc i) * g (suc j - suc i)) (λ i. Q n i * g (j - i))
      (λ i h. let e : suc j - suc i ≡ j - i = omega arith in ap₂ (λ (x y : ℕ). x * g y) (Q_next n i) e))

  -- A bit of the register after one more step.
  next_first : (n : ℕ) → n < 255 → at (remainder (suc n) w) 0 ≡ w n ⊕ o n * g 0
  unfolding t
  next_first n l =
      ap (λ u. at u 0) (next n l) ∙ at_⊕ (t n) (o n * polynomial_number generator) 0
      ∙ ap₂ ◌⊕◌ (at_first (remainder n w) (w n) (b n l))
      (at_times (o n) (polynomial_number generator) 0 (o_lt n l) ∙ ap (λ u. o n * u) (g_at 0 (lit< tt)))

  next_later : (n j : ℕ) → n < 255 → suc j < 255 → at (remainder (suc n) w) (suc j) ≡ at (remainder n w) j ⊕ o n * g (suc j)
  unfolding t
  next_later n j l h =
      ap (λ u. at u (suc j)) (next n l) ∙ at_⊕ (t n) (o n * polynomial_number generator) (suc j)
      ∙ ap₂ ◌⊕◌ (at_next (remainder n w) (w n) j (b n l))
      (at_times (o n) (polynomial_number generator) (suc j) (o_lt n l) ∙ ap (λ u. o n * u) (g_at (suc j) h))

  -- The bits of the word are the product with g and, added to it, the remainder.
  divided : (n j : ℕ) → n ≤ 255 → j < n → w (n - suc j) ≡ product (Q n) g j ⊕ at (remainder n w) j
  divided zero j l h = absurd (omega arith)
  divided (suc n) zero l h =
      let e : suc n - 1 ≡ n = omega arith in
      ap w e ∙ sym (ap₂ ◌⊕◌ (product_first n) (next_first n (omega arith)) ∙ cancel (o n * g 0) (w n))
    where
      cancel : (x y : ℕ) → x ⊕ (y ⊕ x) ≡ y
      cancel x y = simp sums
  divided (suc n) (suc j) l h =
      let e : suc n - suc (suc j) ≡ n - suc j = omega arith in
      ap w e ∙ divided n j (omega arith) (omega arith)
      ∙ sym (ap₂ ◌⊕◌ (product_next n j) (next_later n j (omega arith) (omega arith)) ∙ cancel (o n * g (suc j)) (product (Q n) g j) (at (remainder n w) j))
    where
      cancel : (x y z : ℕ) → (x ⊕ y) ⊕ (z ⊕ x) ≡ y ⊕ z
      cancel x y z = simp sums

  -- The first sixteen steps let nothing fall out, so the quotient's degree is at most 238.
  o_none : (n : ℕ) → n < 16 → o n ≡ 0
  unfolding o t
  o_none n l =
      let small : remainder n w < 2 ^ n = subst (λ u. u < 2 ^ n) (sym first) (from_bits_lt n (λ i. w (0 + i))) in
      div-eq_of_lt (omega (arith, b n (omega arith), pow-suc 2 n, pow_mono {i = suc n} {j = 16} l))
    where
      first : remainder n w ≡ from_bits n (λ i. w (0 + i))
      first =
          let e : 0 + n ≡ n = omega arith in ap (λ k. remainder k w) (sym e)
          ∙ taken_in 0 n w (λ k h. absurd (omega arith)) (omega arith) (λ k h. b k (omega arith))

  Q_bits : (i : ℕ) → Q 255 i < 2
  Q_bits i = go (dec_lt i 255)
    where
      go : Dec (i < 255) → Q 255 i < 2
      go (yes h) = rw (Q_in 255 i h) (o_lt (255 - suc i) (omega arith))
      go (no h) = rw (Q_out 255 i (omega arith)) (lit< tt)

  Q_degree : (i : ℕ) → 238 < i → Q 255 i ≡ 0
  Q_degree i l = go (dec_lt i 255)
    where
      go : Dec (i < 255) → Q 255 i ≡ 0
      go (yes h) = Q_in 255 i h ∙ o_none (255 - suc i) (omega arith)
      go (no h) = Q_out 255 i (omega arith)

-- A remainder of 0 gives a quotient.
pub remainder_quotient : (w : Word) → BitsTo 255 w → remainder 255 w ≡ 0 → Divisible w
unfolding g at
remainder_quotient w b e =
    record {
      quotient = Q w b 255;
      bits = Q_bits w b;
      degree = Q_degree w b;
      multiple = λ j l.
          let d : 254 - j ≡ 255 - suc j = omega arith in
          ap w d ∙ divided w b 255 j (lit≤ tt) l
          ∙ ap (λ u. product (Q w b 255) (coefficient generator) j ⊕ u) (ap (λ r. r / 2 ^ j % 2) e ∙ ap (λ u. u % 2) (div-eq_of_lt (pow_pos j)))
          ∙ ⊕_zero (product (Q w b 255) (coefficient generator) j);
    }

-- ---- a product with g that has no power from 16 on is 0

product_⊕ : (p q h : ℕ → ℕ) (j : ℕ) → ((i : ℕ) → p i < 2) → ((i : ℕ) → q i < 2)
    → product (λ i. p i ⊕ q i) h j ≡ product p h j ⊕ product q h j
unfolding product
product_⊕ p q h j bp bq =
    xor_sum_ext (suc j) (λ i. (p i ⊕ q i) * h (j - i)) (λ i. p i * h (j - i) ⊕ q i * h (j - i)) (λ i l. bits_⊕_times (p i) (q i) (h (j - i)) (bp i) (bq i))
    ∙ xor_sum_⊕ (suc j) (λ i. p i * h (j - i)) (λ i. q i * h (j - i))

module _ (p : ℕ → ℕ) (degree : (i : ℕ) → 238 < i → p i ≡ 0) (high : (j : ℕ) → 16 ≤ j → j < 255 → product p g j ≡ 0) where
  -- The coefficient of y^(i + 16) is p i where p has no power above i.
  leading : (i : ℕ) → i ≤ 238 → ((k : ℕ) → i < k → p k ≡ 0) → product p g (i + 16) ≡ p i
  unfolding product
  leading i l above =
      xor_sum_one (suc (i + 16)) i (λ k. p k * g (i + 16 - k)) (omega arith) others
      ∙ ap (λ u. p i * u) (ap g here ∙ g_top) ∙ mul-one (p i)
    where
      here : i + 16 - i ≡ 16
      here = omega arith

      others : (k : ℕ) → k < suc (i + 16) → k ≢ i → p k * g (i + 16 - k) ≡ 0
      others k h n = go (dec_lt i k)
        where
          go : Dec (i < k) → p k * g (i + 16 - k) ≡ 0
          go (yes m) = ap (λ u. u * g (i + 16 - k)) (above k m) ∙ zero-mul (g (i + 16 - k))
          go (no m) =
              ap (λ u. p k * u) (g_none (i + 16 - k) (omega arith)) ∙ mul-zero (p k)

  -- From the top down.
  none_from : (m : ℕ) → m ≤ 239 → (i : ℕ) → 239 - m ≤ i → p i ≡ 0
  none_from zero l i h = degree i (omega arith)
  none_from (suc m) l i h = go (ℕ_discrete i (238 - m)) (none_from m (omega arith))
    where
      go : Dec (i ≡ 238 - m) → ((k : ℕ) → 239 - m ≤ k → p k ≡ 0) → p i ≡ 0
      go (yes e) above = sym (leading i (omega arith) (λ k q. above k (omega arith))) ∙ high (i + 16) (omega arith) (omega arith)
      go (no n) above = above i (omega arith)

  no_product : (j : ℕ) → product p g j ≡ 0
  unfolding product
  no_product j =
      xor_sum_none (suc j) (λ i. p i * g (j - i)) (λ i l. ap (λ u. u * g (j - i)) (none_from 239 (lit≤ tt) i (omega arith)) ∙ zero-mul (g (j - i)))

-- A number of 16 bits that has none is 0.
all_zero : (r : ℕ) → r < 65536 → ((j : ℕ) → j < 16 → at r j ≡ 0) → r ≡ 0
unfolding at bit_of
all_zero r h z =
    bit_of_equal 16 r 0 h (lit< tt)
    (λ i l. let e : 16 - 1 - i ≡ 15 - i = omega arith in
    ap (λ k. r / 2 ^ k % 2) e ∙ z (15 - i) (omega arith) ∙ sym (ap (λ u. u % 2) (div-eq_of_lt (pow_pos (16 - 1 - i)))))

sum_move : (x y z : ℕ) → x ≡ y ⊕ z → x ⊕ y ≡ z
sum_move x y z e = ap (λ u. u ⊕ y) e ∙ regroup y z
  where
    regroup : (y z : ℕ) → (y ⊕ z) ⊕ y ≡ z
    regroup y z = simp sums

multiple : (w : Word) (d : Divisible w) (j : ℕ) → j < 255 → w (254 - j) ≡ product d.quotient g j
unfolding g
multiple w d j l = d.multiple j l

-- A quotient gives a remainder of 0.
pub quotient_remainder : (w : Word) → BitsTo 255 w → Divisible w → remainder 255 w ≡ 0
quotient_remainder w b d =
    all_zero (remainder 255 w) (remainder_lt 255 w b) (λ j l. sym (values j (omega arith)) ∙ no_product p p_degree p_high j)
  where
    p : ℕ → ℕ
    p i = d.quotient i ⊕ Q w b 255 i

    values : (j : ℕ) → j < 255 → product p g j ≡ at (remainder 255 w) j
    values j l =
        let e : 254 - j ≡ 255 - suc j = omega arith in
        product_⊕ d.quotient (Q w b 255) g j d.bits (Q_bits w b)
        ∙ sum_move (product d.quotient g j) (product (Q w b 255) g j) (at (remainder 255 w) j)
        (sym (multiple w d j l) ∙ ap w e ∙ divided w b 255 j (lit≤ tt) l)

    p_degree : (i : ℕ) → 238 < i → p i ≡ 0
    p_degree i l = ap₂ ◌⊕◌ (d.degree i l) (Q_degree w b i l) ∙ zero_⊕ 0

    p_high : (j : ℕ) → 16 ≤ j → j < 255 → product p g j ≡ 0
    p_high j l h = values j h ∙ at_high (remainder 255 w) j (remainder_lt 255 w b) l

-- ---- the two factors

-- "a product of (y^8+y^4+y^3+y^2+1) and (y^8+y^6+y^5+y^4+y^2+y+1)": at every power of y.
pub factors : (j : ℕ) → product (coefficient first_factor) (coefficient second_factor) j ≡ coefficient generator j
unfolding product coefficient first_factor second_factor generator xor_sum ◌⊕◌
factors j = go (dec_lt j 17)
  where
    first : ℕ → ℕ
    first i = coefficient first_factor i

    second : ℕ → ℕ
    second i = coefficient second_factor i

    none : (i : ℕ) → 17 ≤ j → Dec (i < 9) → first i * second (j - i) ≡ 0
    none i l (yes h) = ap (λ u. first i * u) (coefficient_none second_factor 9 (j - i) tt (omega arith)) ∙ mul-zero (first i)
    none i l (no h) = ap (λ u. u * second (j - i)) (coefficient_none first_factor 9 i tt (omega arith)) ∙ zero-mul (second (j - i))

    go : Dec (j < 17) → product first second j ≡ coefficient generator j
    go (yes l) = agree 17 (product first second) (coefficient generator) tt j l
    go (no n) =
        xor_sum_none (suc j) (λ i. first i * second (j - i)) (λ i l. none i (omega arith) (dec_lt i 9))
        ∙ sym (coefficient_none generator 17 j tt (omega arith))
