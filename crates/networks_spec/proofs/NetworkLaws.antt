-- What a column of numbers shows of a word, and how networks carry it on.
-- Assumes nothing.
use Rattle.std.specs.Prelude.{◌≡◌, refl, List, [], ◌∷◌, ℕ, zero, suc, ◌+◌, ◌-◌, ◌*◌, ◌/◌, ◌%◌, ◌^◌, ◌<◌, length, get_or}
use Rattle.std.proofs.Common.{sym, ap, ap₂, ◌∙◌, mul-one, mul-zero, div-one, arith, shr-shr}
use Rattle.std.proofs.lemmas.Nat.{shr_le}
use Rattle.std.proofs.Math.Pow.{field, mod-mod-pow}
use Rattle.bits.specs.Bits.{bit_of}
use Rattle.bits.proofs.BitLaws.{bit_of_lt}
use Rattle.bits.specs.ListLaws.{get_d_tabulate}
use Rattle.bits.specs.Xor.{◌⊕◌, xor_sum}
use Rattle.bits.proofs.XorLaws.{⊕_shr, ⊕_mod, ⊕_zero, xor_sum_ext, xor_sum_first}
use Rattle.gf256.specs.Linear.{Linear, additive, lin, bit_through, sum_through}
use Rattle.networks_spec.specs.Networks.{taken, marked, network_sum, network, added}

pub bit_of_⊕ : (n a b c : ℕ) → bit_of n (a ⊕ b) c ≡ bit_of n a c ⊕ bit_of n b c
unfolding bit_of
bit_of_⊕ n a b c = ap (λ u. u % 2) (⊕_shr a b (n - 1 - c)) ∙ ⊕_mod (a / 2 ^ (n - 1 - c)) (b / 2 ^ (n - 1 - c))

-- A digit below 2^n is one of the remainder.
pub low_digit : (n v k : ℕ) → k < n → v / 2 ^ k % 2 ≡ v % 2 ^ n / 2 ^ k % 2
low_digit n v k l =
    let e : n ≡ (n - k) + k = omega arith in
    let d : n - k ≡ (n - 1 - k) + 1 = omega arith in
    sym
    (ap (λ m. v % 2 ^ m / 2 ^ k % 2) e ∙ ap (λ u. u % 2) (field v (n - k) k) ∙ ap (λ m. v / 2 ^ k % 2 ^ m % 2) d
    ∙ mod-mod-pow (v / 2 ^ k) (n - 1 - k) 1)

-- In numbers of n bits, a bit for each of n words: bit w of the sixteen numbers a is v, digit 0 first.
pub record Shows (n : ℕ) (a : List ℕ) (w v : ℕ) : Type 0 where
  pub bits : (i : ℕ) → i < 16 → bit_of n (get_or a i 0) w ≡ v / 2 ^ i % 2

pub digit_linear : (i : ℕ) → Linear (λ x. x / 2 ^ i % 2)
digit_linear i = additive (λ x. x / 2 ^ i % 2) (λ x y. ap (λ u. u % 2) (⊕_shr x y i) ∙ ⊕_mod (x / 2 ^ i) (y / 2 ^ i))

taken_bit : (n t a v r : ℕ) → t < 2 → bit_of n (taken t a v) r ≡ bit_of n a r ⊕ bit_of n v r * t
unfolding taken
taken_bit n zero a v r l = sym (ap (λ u. bit_of n a r ⊕ u) (mul-zero (bit_of n v r)) ∙ ⊕_zero (bit_of n a r))
taken_bit n (suc zero) a v r l = bit_of_⊕ n a v r ∙ ap (λ u. bit_of n a r ⊕ u) (sym (mul-one (bit_of n v r)))
taken_bit n (suc (suc t)) a v r l = absurd (omega arith)

none_bit : (n r : ℕ) → bit_of n 0 r ≡ 0
unfolding bit_of
none_bit n r = let z : 0 / 2 ^ (n - 1 - r) ≡ 0 = omega (arith, shr_le 0 (n - 1 - r)) in ap (λ u. u % 2) z

marked_bit : (b n : ℕ) (t f : ℕ → ℕ) (r : ℕ) → ((j : ℕ) → t j < 2) → bit_of b (marked n t f) r ≡ xor_sum n (λ j. bit_of b (f j) r * t j)
unfolding marked xor_sum
marked_bit b zero t f r h = none_bit b r
marked_bit b (suc n) t f r h = taken_bit b (t n) (marked n t f) (f n) r (h n) ∙ ap (λ u. u ⊕ bit_of b (f n) r * t n) (marked_bit b n t f r h)

-- Sums by columns show the sum of the columns.
pub network_shows : (n : ℕ) (columns x : List ℕ) (r : ℕ) (z : ℕ → ℕ) → ((j : ℕ) → j < 16 → bit_of n (get_or x j 0) r ≡ z j)
    → Shows n (network columns x) r (xor_sum 16 (λ j. z j * get_or columns j 0))
unfolding network network_sum
network_shows n columns x r z e =
    record {
      bits = λ i l.
          ap (λ u. bit_of n u r) (get_d_tabulate 16 (network_sum columns x) i 0 l)
          ∙ marked_bit n 16 (λ j. get_or columns j 0 / 2 ^ i % 2) (λ j. get_or x j 0) r (λ j. omega arith)
          ∙ xor_sum_ext 16 (λ j. bit_of n (get_or x j 0) r * (get_or columns j 0 / 2 ^ i % 2)) (λ j. z j * get_or columns j 0 / 2 ^ i % 2)
          (λ j lj. ap (λ u. u * (get_or columns j 0 / 2 ^ i % 2)) (e j lj)
          ∙ sym (bit_through (digit_linear i) (z j) (get_or columns j 0) (let b = bit_of_lt n (get_or x j 0) r in omega (arith, b, e j lj))))
          ∙ sym (sum_through (digit_linear i) 16 (λ j. z j * get_or columns j 0));
    }

pub added_shows : (n : ℕ) (a b : List ℕ) (r u v : ℕ) → Shows n a r u → Shows n b r v → Shows n (added a b) r (u ⊕ v)
unfolding added
added_shows n a b r u v p q =
    record {
      bits = λ i l.
          ap (λ w. bit_of n w r) (get_d_tabulate 16 (λ i. get_or a i 0 ⊕ get_or b i 0) i 0 l) ∙ bit_of_⊕ n (get_or a i 0) (get_or b i 0) r
          ∙ ap₂ ◌⊕◌ (p.bits i l) (q.bits i l) ∙ sym ((digit_linear i).at_sum u v);
    }

-- A linear map is the sum of its columns.
halved : (x j : ℕ) → x / 2 / 2 ^ j ≡ x / 2 ^ suc j
halved x j = shr-shr x 1 j ∙ ap (λ k. x / 2 ^ k) (omega arith)

pub lin_sum : (cs : List ℕ) (x : ℕ) → lin cs x ≡ xor_sum (length cs) (λ j. x / 2 ^ j % 2 * get_or cs j 0)
unfolding lin xor_sum
lin_sum [] x = refl
lin_sum (c ∷ cs) x =
    ap₂ ◌⊕◌ (ap (λ u. u % 2 * c) (sym (div-one x)))
    (lin_sum cs (x / 2) ∙ xor_sum_ext (length cs) (λ j. x / 2 / 2 ^ j % 2 * get_or cs j 0) (λ j. x / 2 ^ suc j % 2 * get_or cs j 0)
    (λ j l. ap (λ u. u % 2 * get_or cs j 0) (halved x j)))
    ∙ sym (xor_sum_first (length cs) (λ j. x / 2 ^ j % 2 * get_or (c ∷ cs) j 0))

pub lin_shows : (n : ℕ) (columns x : List ℕ) (r v : ℕ) → length columns ≡ 16 → Shows n x r v → Shows n (network columns x) r (lin columns v)
lin_shows n columns x r v e h =
    let q : xor_sum 16 (λ j. v / 2 ^ j % 2 * get_or columns j 0) ≡ lin columns v = ap (λ n. xor_sum n (λ j. v / 2 ^ j % 2 * get_or columns j 0)) (sym e) ∙ sym (lin_sum columns v) in
    rw q at (network_shows n columns x r (λ j. v / 2 ^ j % 2) h.bits)
