-- Laws of counting: sums of numbers, sums of 0s and 1s, and the distance of two words.
-- Assumes nothing.
use Rattle.std.specs.Prelude.{◌≡◌, refl, ◌≢◌, ℕ, zero, suc, ◌+◌, ◌≤◌, ◌<◌}
use Rattle.std.proofs.Common.{ap, ap₂, sym, ◌∙◌, arith, eq-eqb, ne_eqb}
use Rattle.std.proofs.Math.Decide.{ℕ_discrete}
use Rattle.bits.specs.Count.{differs, count, distance}

-- ---- sums

pub count_suc : (n : ℕ) (f : ℕ → ℕ) → count (suc n) f ≡ count n f + f n
unfolding count
count_suc n f = refl

pub count_ext : (n : ℕ) (f g : ℕ → ℕ) → ((k : ℕ) → k < n → f k ≡ g k) → count n f ≡ count n g
unfolding count
count_ext zero f g h = refl
count_ext (suc n) f g h = ap₂ ◌+◌ (count_ext n f g (λ k l. h k (omega arith))) (h n (omega arith))

pub count_mono : (n : ℕ) (f g : ℕ → ℕ) → ((k : ℕ) → k < n → f k ≤ g k) → count n f ≤ count n g
unfolding count
count_mono zero f g h = omega arith
count_mono (suc n) f g h = omega (arith, count_mono n f g (λ k l. h k (omega arith)), h n (omega arith))

-- A count of 0s and 1s is at most the number of places.
pub count_le : (n : ℕ) (f : ℕ → ℕ) → ((k : ℕ) → f k ≤ 1) → count n f ≤ n
unfolding count
count_le zero f h = omega arith
count_le (suc n) f h = omega (arith, count_le n f h, h n)

pub count_add : (n : ℕ) (f g : ℕ → ℕ) → count n (λ k. f k + g k) ≡ count n f + count n g
unfolding count
count_add zero f g = refl
count_add (suc n) f g = omega (arith, count_add n f g)

-- A sum over n + m places is the sum over the first n and that over the m after them.
pub count_split : (n m : ℕ) (f : ℕ → ℕ) → count (n + m) f ≡ count n f + count m (λ k. f (n + k))
unfolding count
count_split n zero f = let e : n + 0 ≡ n = omega arith in ap (λ j. count j f) e ∙ omega arith
count_split n (suc m) f =
    ap (λ j. count j f) again ∙ ap (λ s. s + f (n + m)) (count_split n m f) ∙ omega arith
  where
    again : n + suc m ≡ suc (n + m)
    again = omega arith

pub count_none : (n : ℕ) (f : ℕ → ℕ) → ((k : ℕ) → k < n → f k ≡ 0) → count n f ≡ 0
unfolding count
count_none zero f h = refl
count_none (suc n) f h = omega (arith, count_none n f (λ k l. h k (omega arith)), h n (omega arith))

-- A sum that is 0 has only zeros.
pub count_zero : (n : ℕ) (f : ℕ → ℕ) → count n f ≡ 0 → (k : ℕ) → k < n → f k ≡ 0
unfolding count
count_zero zero f e k l = absurd (omega arith)
count_zero (suc n) f e k l = go (ℕ_discrete k n) (λ l'. count_zero n f (omega arith) k l')
  where
    go : Dec (k ≡ n) → (k < n → f k ≡ 0) → f k ≡ 0
    go (yes p) low = rw p (omega arith)
    go (no q) low = low (omega arith)

-- A sum in which one place alone may count is what stands there.
pub count_one : (n i : ℕ) (f : ℕ → ℕ) → i < n → ((k : ℕ) → k < n → k ≢ i → f k ≡ 0) → count n f ≡ f i
unfolding count
count_one zero i f l h = absurd (omega arith)
count_one (suc n) i f l h = go (ℕ_discrete i n) (λ l'. count_one n i f l' (λ k lk ne. h k (omega arith) ne))
  where
    go : Dec (i ≡ n) → (i < n → count n f ≡ f i) → count n f + f n ≡ f i
    go (yes p) rest = omega (arith, count_none n f (λ k lk. h k (omega arith) (omega arith)), ap f p)
    go (no p) rest = omega (arith, rest (omega arith), h n (omega arith) (omega arith))

-- A sum in which two places alone may count.
pub count_two : (n i j : ℕ) (f : ℕ → ℕ) → i < j → j < n → ((k : ℕ) → k < n → k ≢ i → k ≢ j → f k ≡ 0) → count n f ≡ f i + f j
unfolding count
count_two zero i j f l m h = absurd (omega arith)
count_two (suc n) i j f l m h = go (ℕ_discrete j n) (λ m'. count_two n i j f l m' (λ k lk ne nf. h k (omega arith) ne nf))
  where
    go : Dec (j ≡ n) → (j < n → count n f ≡ f i + f j) → count n f + f n ≡ f i + f j
    go (yes p) rest = omega (arith, count_one n i f (omega arith) (λ k lk ne. h k (omega arith) ne (omega arith)), ap f p)
    go (no p) rest = omega (arith, rest (omega arith), h n (omega arith) (omega arith) (omega arith))

-- ---- two numbers that differ or not

pub differs_same : (a b : ℕ) → a ≡ b → differs a b ≡ 0
unfolding differs
differs_same a b e = simp (eq-eqb a b e)

pub differs_other : (a b : ℕ) → a ≢ b → differs a b ≡ 1
unfolding differs
differs_other a b n = simp (ne_eqb a b n)

-- The two ways in which `differs` answers, for a proof by cases.
pub data Differs (a b : ℕ) : Type 0 where
  same : a ≡ b → differs a b ≡ 0 → Differs a b
  other : a ≢ b → differs a b ≡ 1 → Differs a b

pub tell : (a b : ℕ) → Differs a b
tell a b = go (ℕ_discrete a b)
  where
    go : Dec (a ≡ b) → Differs a b
    go (yes p) = same p (differs_same a b p)
    go (no q) = other q (differs_other a b q)

pub differs_eq : (a b : ℕ) → differs a b ≡ 0 → a ≡ b
differs_eq a b h = go (tell a b)
  where
    go : Differs a b → a ≡ b
    go (same p e) = p
    go (other q e) = absurd (omega arith)

pub differs_le : (a b : ℕ) → differs a b ≤ 1
differs_le a b = go (tell a b)
  where
    go : Differs a b → differs a b ≤ 1
    go (same p e) = omega arith
    go (other q e) = omega arith

-- Where b ≡ d gives a ≡ c, the first pair differs no more than the second.
pub differs_mono : (a c b d : ℕ) → (b ≡ d → a ≡ c) → differs a c ≤ differs b d
differs_mono a c b d h = go (tell b d)
  where
    go : Differs b d → differs a c ≤ differs b d
    go (same p e) = omega (arith, differs_same a c (h p))
    go (other q e) = omega (arith, differs_le a c)

differs_triangle : (a b c : ℕ) → differs a c ≤ differs a b + differs b c
differs_triangle a b c = go (tell a b) (tell b c)
  where
    go : Differs a b → Differs b c → differs a c ≤ differs a b + differs b c
    go (same p e) (same q f) = omega (arith, differs_same a c (p ∙ q))
    go (same p e) (other q f) = omega (arith, differs_le a c)
    go (other p e) (same q f) = omega (arith, differs_le a c)
    go (other p e) (other q f) = omega (arith, differs_le a c)

-- ---- the distance of two words

-- Where y ≡ d gives x ≡ c at each place, x is no farther from c than y from d.
pub distance_mono : (n : ℕ) (x c y d : ℕ → ℕ) → ((k : ℕ) → k < n → y k ≡ d k → x k ≡ c k) → distance n x c ≤ distance n y d
unfolding distance
distance_mono n x c y d h =
    count_mono n (λ k. differs (x k) (c k)) (λ k. differs (y k) (d k)) (λ k l. differs_mono (x k) (c k) (y k) (d k) (h k l))

pub distance_triangle : (n : ℕ) (x y z : ℕ → ℕ) → distance n x z ≤ distance n x y + distance n y z
unfolding distance
distance_triangle n x y z =
    omega (
      arith,
      count_add n (λ k. differs (x k) (y k)) (λ k. differs (y k) (z k)),
      count_mono n (λ k. differs (x k) (z k)) (λ k. differs (x k) (y k) + differs (y k) (z k)) (λ k l. differs_triangle (x k) (y k) (z k)),
    )

pub distance_sym : (n : ℕ) (x y : ℕ → ℕ) → distance n x y ≡ distance n y x
distance_sym n x y = omega (arith, distance_mono n x y y x (λ k l e. sym e), distance_mono n y x x y (λ k l e. sym e))

pub distance_ext : (n : ℕ) (x c y d : ℕ → ℕ) → ((k : ℕ) → k < n → x k ≡ y k) → ((k : ℕ) → k < n → c k ≡ d k)
    → distance n x c ≡ distance n y d
unfolding distance
distance_ext n x c y d e f =
    count_ext n (λ k. differs (x k) (c k)) (λ k. differs (y k) (d k)) (λ k l. ap₂ differs (e k l) (f k l))

pub distance_none : (n : ℕ) (x y : ℕ → ℕ) → ((k : ℕ) → k < n → x k ≡ y k) → distance n x y ≡ 0
unfolding distance
distance_none n x y e = count_none n (λ k. differs (x k) (y k)) (λ k l. differs_same (x k) (y k) (e k l))

pub distance_zero : (n : ℕ) (x y : ℕ → ℕ) → distance n x y ≡ 0 → (k : ℕ) → k < n → x k ≡ y k
unfolding distance
distance_zero n x y e k l = differs_eq (x k) (y k) (count_zero n (λ k. differs (x k) (y k)) e k l)
