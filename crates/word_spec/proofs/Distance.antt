-- "Two different code words differ in at least 6 bits."
-- Assumes nothing.
use Rattle.std.specs.Prelude.{◌≡◌, cond, ◌⊎◌, ltb, eqb, get_or}
use Rattle.std.proofs.Math.Path.{refl, ap}
use Rattle.std.proofs.Common.{sym, ap₂, ◌∙◌, inl, inr, ⊎_elim, zero-mul, one-mul, arith, lit≤, ltb→lt}
use Prim.Native.Nat.{ℕ, zero, suc, ◌+◌, ◌-◌, ◌*◌, ◌%◌, ◌<◌, ◌≤◌}
use Rattle.std.proofs.Math.Decide.{ℕ_discrete}
use Rattle.bits.specs.Tests.{each, agree}
use Rattle.bits.specs.Count.{count, differs, distance}
use Rattle.bits.proofs.CountLaws.{Differs, same, other, tell, differs_le, count_zero, distance_zero}
use Rattle.bits.specs.Xor.{◌⊕◌, xor_sum}
use Rattle.bits.proofs.XorLaws.{⊕_zero, zero_⊕, ⊕_eq, ⊕_lt, sums, xor_sum_⊕, xor_sum_ext, xor_sum_none, bits_⊕_times}
use Rattle.gf256.specs.Field.{◌·◌, cube}
use Rattle.gf256.proofs.Field.{cubes}
use Rattle.gf256.specs.Tables.{powers, logs}
use Rattle.gf256.proofs.PowerLaws.{no_zero_divisors, ·_lt}
use Rattle.word_spec.specs.CodeWord.{Word, parity, CodeWord}
use Rattle.word_spec.proofs.RemainderLaws.{BitsTo}
use Rattle.word_spec.specs.Syndromes.{locator, S1, S3}
use Rattle.word_spec.proofs.SyndromeLaws.{code_S1, code_S3}

-- ---- locators of different places differ

pub locator_lt : (k : ℕ) → k < 256 → locator k < 256
unfolding locator powers
locator_lt k h = ltb→lt (locator k) 256 (each 256 (λ i. ltb (locator i) 256) tt k h)

-- The place that an element stands for.
place : ℕ → ℕ
place x = cond (eqb x 0) 255 (254 - get_or logs x 0)

place_locator : (k : ℕ) → k < 256 → place (locator k) ≡ k
unfolding place locator powers logs
place_locator = agree 256 (λ k. place (locator k)) (λ k. k) tt

pub locator_eq : (i j : ℕ) → i < 256 → j < 256 → locator i ≡ locator j → i ≡ j
locator_eq i j hi hj e = sym (place_locator i hi) ∙ ap place e ∙ place_locator j hj

apart : (i j : ℕ) → i < 256 → j < i → locator i ⊕ locator j ≡ 0 → ⊥
apart i j hi hj e = let z = locator_eq i j hi (omega arith) (⊕_eq (locator i) (locator j) e) in omega arith

-- ---- the last place at which a word is set, and the places before it

pub record Last (f : Word) (n m : ℕ) : Type 0 where
  pub place : ℕ
  pub inside : place < n
  pub set : f place ≡ 1
  pub above : (k : ℕ) → place < k → k < n → f k ≡ 0
  pub fewer : count place f ≡ m
  pub sums_to : (q : ℕ → ℕ) → xor_sum n (λ k. f k * q k) ≡ xor_sum place (λ k. f k * q k) ⊕ q place

pub last_set : (f : Word) (n m : ℕ) → BitsTo n f → count n f ≡ suc m → Last f n m
unfolding count xor_sum
last_set f zero m b e = absurd (omega arith)
last_set f (suc n) m b e = go (ℕ_discrete (f n) 0) (λ d. last_set f n m (λ k l. b k (omega arith)) d)
  where
    go : Dec (f n ≡ 0) → (count n f ≡ suc m → Last f n m) → Last f (suc n) m
    go (yes z) rest =
        let p = rest (omega arith) in
        record {
          place = p.place;
          inside = omega (arith, p.inside);
          set = p.set;
          above = λ k l h. above p k l h (ℕ_discrete k n);
          fewer = p.fewer;
          sums_to = λ q. ap₂ ◌⊕◌ (p.sums_to q) (ap (λ u. u * q n) z ∙ zero-mul (q n)) ∙ ⊕_zero (xor_sum p.place (λ k. f k * q k) ⊕ q p.place);
        }
      where
        above : (p : Last f n m) (k : ℕ) → p.place < k → k < suc n → Dec (k ≡ n) → f k ≡ 0
        above p k l h (yes c) = ap f c ∙ z
        above p k l h (no c) = p.above k l (omega arith)
    go (no o) rest =
        let one : f n ≡ 1 = omega (arith, b n (omega arith)) in
        record {
          place = n;
          inside = omega arith;
          set = one;
          above = λ k l h. absurd (omega arith);
          fewer = omega arith;
          sums_to = λ q. ap (λ u. xor_sum n (λ k. f k * q k) ⊕ u) (ap (λ u. u * q n) one ∙ one-mul (q n));
        }

-- A word of no ones sums to nothing.
nothing : (f : Word) (n : ℕ) (q : ℕ → ℕ) → count n f ≡ 0 → xor_sum n (λ k. f k * q k) ≡ 0
nothing f n q e = xor_sum_none n (λ k. f k * q k) (λ k l. ap (λ u. u * q k) (count_zero n f e k l) ∙ zero-mul (q k))

-- ---- a word of few ones whose sums vanish has none

module _ (f : Word) (b : BitsTo 256 f) where
  shorter : {n : ℕ} → n ≤ 256 → BitsTo n f
  shorter l k h = b k (omega arith)

  not_two : count 256 f ≡ 2 → xor_sum 256 (λ k. f k * locator k) ≡ 0 → ⊥
  not_two e v =
      let p = last_set f 256 1 b e in
      let r = last_set f p.place 0 (shorter (omega (arith, p.inside))) p.fewer in
      apart p.place r.place p.inside r.inside
      (two (locator p.place) (locator r.place) _ (nothing f r.place locator r.fewer) ∙ sym (ap (λ u. u ⊕ locator p.place) (r.sums_to locator))
      ∙ sym (p.sums_to locator) ∙ v)
    where
      two : (x y z : ℕ) → z ≡ 0 → x ⊕ y ≡ (z ⊕ y) ⊕ x
      two x y z e = rw e (simp sums)

  -- The four places of a word of four ones, falling.
  record Places : Type 0 where
    i : ℕ
    j : ℕ
    k : ℕ
    l : ℕ
    i_lt : i < 256
    j_lt : j < i
    k_lt : k < j
    sum : (q : ℕ → ℕ) → q i ⊕ q j ⊕ q k ⊕ q l ≡ xor_sum 256 (λ n. f n * q n)

  places : count 256 f ≡ 4 → Places
  places e =
      let p = last_set f 256 3 b e in
      let r = last_set f p.place 2 (shorter (omega (arith, p.inside))) p.fewer in
      let s = last_set f r.place 1 (shorter (omega (arith, p.inside, r.inside))) r.fewer in
      let t = last_set f s.place 0 (shorter (omega (arith, p.inside, r.inside, s.inside))) s.fewer in
      record {
        i = p.place;
        j = r.place;
        k = s.place;
        l = t.place;
        i_lt = p.inside;
        j_lt = r.inside;
        k_lt = s.inside;
        sum = λ q. four (q p.place) (q r.place) (q s.place) (q t.place) _ (nothing f t.place q t.fewer)
            ∙ sym (p.sums_to q ∙ ap (λ u. u ⊕ q p.place) (r.sums_to q ∙ ap (λ u. u ⊕ q r.place) (s.sums_to q ∙ ap (λ u. u ⊕ q s.place) (t.sums_to q))));
      }
    where
      four : (x y z u n : ℕ) → n ≡ 0 → x ⊕ y ⊕ z ⊕ u ≡ (((n ⊕ u) ⊕ z) ⊕ y) ⊕ x
      four x y z u n e = rw e (simp sums)

  -- Four elements whose sum and whose cubes' sum is 0: two of the first three are one.
  four_equal : (x y z u : ℕ) → x < 256 → y < 256 → z < 256 → x ⊕ y ⊕ z ⊕ u ≡ 0 → cube x ⊕ cube y ⊕ cube z ⊕ cube u ≡ 0
      → (x ⊕ y ≡ 0) ⊎ ((y ⊕ z ≡ 0) ⊎ (x ⊕ z ≡ 0))
  four_equal x y z u hx hy hz e g = go (no_zero_divisors (x ⊕ y) ((y ⊕ z) · (x ⊕ z)) (⊕_lt 8 x y hx hy) (·_lt (y ⊕ z) (x ⊕ z)) product)
    where
      u_is : x ⊕ y ⊕ z ≡ u
      u_is = ⊕_eq (x ⊕ y ⊕ z) u (simp sums e)

      product : (x ⊕ y) · (y ⊕ z) · (x ⊕ z) ≡ 0
      product = sym (cubes x y z) ∙ ap (λ v. cube x ⊕ cube y ⊕ cube z ⊕ cube v) u_is ∙ g

      go : (x ⊕ y ≡ 0) ⊎ ((y ⊕ z) · (x ⊕ z) ≡ 0) → (x ⊕ y ≡ 0) ⊎ ((y ⊕ z ≡ 0) ⊎ (x ⊕ z ≡ 0))
      go (inl d) = inl d
      go (inr d) = inr (no_zero_divisors (y ⊕ z) (x ⊕ z) (⊕_lt 8 y z hy hz) (⊕_lt 8 x z hx hz) d)

  not_four : count 256 f ≡ 4 → xor_sum 256 (λ k. f k * locator k) ≡ 0 → xor_sum 256 (λ k. f k * cube (locator k)) ≡ 0 → ⊥
  not_four e v v3 =
      let p = places e in
      let i_lt : p.i < 256 = p.i_lt in
      let j_lt : p.j < 256 = omega (arith, p.i_lt, p.j_lt) in
      let k_lt : p.k < 256 = omega (arith, p.i_lt, p.j_lt, p.k_lt) in
      ⊎_elim (apart p.i p.j i_lt p.j_lt)
      (⊎_elim (apart p.j p.k j_lt p.k_lt) (apart p.i p.k i_lt (omega (arith, p.j_lt, p.k_lt))))
      (four_equal (locator p.i) (locator p.j) (locator p.k) (locator p.l) (locator_lt p.i i_lt) (locator_lt p.j j_lt) (locator_lt p.k k_lt)
      (p.sum locator ∙ v) (p.sum (λ k. cube (locator k)) ∙ v3))

  light : count 256 f % 2 ≡ 0 → xor_sum 256 (λ k. f k * locator k) ≡ 0 → xor_sum 256 (λ k. f k * cube (locator k)) ≡ 0
      → count 256 f < 6 → count 256 f ≡ 0
  light e v v3 l = go (count 256 f) refl e l
    where
      go : (n : ℕ) → count 256 f ≡ n → n % 2 ≡ 0 → n < 6 → n ≡ 0
      go zero p o h = refl
      go (suc zero) p o h = absurd (omega arith)
      go (suc (suc zero)) p o h = absurd (not_two p v)
      go (suc (suc (suc zero))) p o h = absurd (omega arith)
      go (suc (suc (suc (suc zero)))) p o h = absurd (not_four p v v3)
      go (suc (suc (suc (suc (suc zero))))) p o h = absurd (omega arith)
      go (suc (suc (suc (suc (suc (suc n)))))) p o h = absurd (omega arith)

-- ---- two code words

-- Bits that differ add up to 1.
differs_⊕ : (a b : ℕ) → a < 2 → b < 2 → differs a b ≡ a ⊕ b
unfolding differs ◌⊕◌
differs_⊕ zero zero ha hb = refl
differs_⊕ zero (suc zero) ha hb = refl
differs_⊕ zero (suc (suc b)) ha hb = absurd (omega arith)
differs_⊕ (suc zero) zero ha hb = refl
differs_⊕ (suc zero) (suc zero) ha hb = refl
differs_⊕ (suc zero) (suc (suc b)) ha hb = absurd (omega arith)
differs_⊕ (suc (suc a)) b ha hb = absurd (omega arith)

differs_sum : (a b : ℕ) → a < 2 → b < 2 → (differs a b + a + b) % 2 ≡ 0
differs_sum a b ha hb = go (tell a b)
  where
    go : Differs a b → (differs a b + a + b) % 2 ≡ 0
    go (same p e) = omega arith
    go (other q e) = omega arith

module _ (c d : Word) (bc : BitsTo 256 c) (bd : BitsTo 256 d) where
  pub differences : Word
  differences k = differs (c k) (d k)

  differences_bits : BitsTo 256 differences
  unfolding differences
  differences_bits k l = omega (arith, differs_le (c k) (d k))

  differences_sum : (q : ℕ → ℕ) → xor_sum 256 (λ k. differences k * q k) ≡ xor_sum 256 (λ k. c k * q k) ⊕ xor_sum 256 (λ k. d k * q k)
  unfolding differences
  differences_sum q =
      xor_sum_ext 256 (λ k. differs (c k) (d k) * q k) (λ k. c k * q k ⊕ d k * q k)
      (λ k l. ap (λ u. u * q k) (differs_⊕ (c k) (d k) (bc k l) (bd k l)) ∙ bits_⊕_times (c k) (d k) (q k) (bc k l) (bd k l))
      ∙ xor_sum_⊕ 256 (λ k. c k * q k) (λ k. d k * q k)

  differences_even : (n : ℕ) → n ≤ 256 → (count n differences + count n c + count n d) % 2 ≡ 0
  unfolding differences count
  differences_even zero l = refl
  differences_even (suc n) l = omega (arith, differences_even n (omega arith), differs_sum (c n) (d n) (bc n l) (bd n l))

pub code_distance : (c d : Word) → CodeWord c → CodeWord d → distance 256 c d < 6 → (k : ℕ) → k < 256 → c k ≡ d k
unfolding distance parity differences S1 S3
code_distance c d C D l =
    distance_zero 256 c d
    (light (differences c d C.bits D.bits) (differences_bits c d C.bits D.bits)
    (omega (arith, differences_even c d C.bits D.bits 256 (lit≤ tt), C.even, D.even))
    (differences_sum c d C.bits D.bits locator ∙ ap₂ ◌⊕◌ (code_S1 c C) (code_S1 d D) ∙ zero_⊕ 0)
    (differences_sum c d C.bits D.bits (λ k. cube (locator k)) ∙ ap₂ ◌⊕◌ (code_S3 c C) (code_S3 d D) ∙ zero_⊕ 0)
    l)
