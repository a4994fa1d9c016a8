-- Laws of counters, and of the kinds.
-- Assumes nothing.
use Rattle.std.specs.Prelude.{◌≡◌, ℕ, zero, suc, ◌+◌, ◌*◌, ◌%◌, ◌^◌, ◌<◌, ◌≤◌, Bool, cond, not, true, false, min, List, length, set, ◌==◌, nat_lt, slice_index, slice_index_or, slice_set, refl}
use Rattle.std.proofs.Common.{sym, ◌∙◌, add-zero, arith, eq-eqb, ne_eqb, length-set, get_or-set_same, get_or-set_other, Fits}
use Rattle.std.proofs.Math.Path.{ap}
use Rattle.std.proofs.Math.Decide.{ℕ_discrete}
use Rattle.std.specs.Int.{from_bool, w64}
use Rattle.std.proofs.lemmas.Bool.Decides.{nat_tests}
use Rattle.bits.specs.Bits.{bit}
use Rattle.bits.specs.Count.{count, differs, distance}
use Rattle.bits.proofs.CountLaws.{count_le, differs_le}
use Rattle.bits.proofs.Folding.{Counting, count_done}
use Rattle.calls.specs.Answers.{Answer}
use Rattle.std.specs.Prelude.{Err}
use Rattle.calls.specs.declared.Refusal.TheVariants.{Misfit, CountSpent}
use Rattle.calls.specs.Answers.{refusal_of}
use Rattle.loopback_core.specs.Steps.{each_step}
use Rattle.loopback_core.specs.StepLaws.{Stepping, step_more, step_done}
use Rattle.loopback_core.specs.Tally.{tally_sum, one_more, tallied, tally, answered, refused_two, wrong_at, word_kind, bit_kind}

-- ---- counters

-- Where a number is known by another.
pub sum_known : (d d' : List ℕ) (at n x : ℕ) → x ≡ (slice_index d at + n) % 2 ^ 32 → d' ≡ slice_set d at x → d' ≡ tally_sum at n d
unfolding tally_sum
sum_known d d' at n x e is = is ∙ ap (set d at) e

-- The number of a refusal that is known.
pub number_known : {a b : Answer} → a ≡ b → refusal_of b < 6 → refusal_of a < 6
number_known {a} {b} e l = omega (arith, ap refusal_of e, l)

-- Two calls with their refusals known.
pub two_answered : (d d' d'' : List ℕ) (a b x y : Answer) → d' ≡ answered a d → d'' ≡ answered b d' → a ≡ x → b ≡ y
    → d'' ≡ answered y (answered x d)
two_answered d d' d'' a b x y e f ea eb = cc

pub refused_more : (before d d' d'' : List ℕ) (k : ℕ) (a b : Answer) → Stepping (λ i. refused_two) 168 before k d → k < 168
    → d' ≡ answered a d → d'' ≡ answered b d'
    → a ≡ Err Misfit → b ≡ Err CountSpent → Stepping (λ i. refused_two) 168 before (k + 1) d''
refused_more before d d' d'' k a b s l e f ea eb = step_more d'' s l (two_answered d d' d'' a b _ _ e f ea eb)

pub tallied_more : (n : ℕ) (kind : ℕ → ℕ) (before d : List ℕ) (i : ℕ) (d' : List ℕ) (v : ℕ) → Stepping (one_more kind) n before i d → i < n
    → v ≡ kind i → d' ≡ tally_sum v 1 d
    → Stepping (one_more kind) n before (i + 1) d'
unfolding one_more
tallied_more n kind before d i d' v s l e is = step_more d' s l (is ∙ ap (λ k. tally_sum k 1 d) e)

pub tallied_done : (n : ℕ) (kind : ℕ → ℕ) (before d : List ℕ) (i : ℕ) → Stepping (one_more kind) n before i d → n ≤ i
    → d ≡ tallied n kind before
unfolding tallied
tallied_done n kind before d i s l = step_done s l

-- ---- each counter has the number of its kind added

-- What a test adds.
abbrev unit : Bool → ℕ
unit t = cond t 1 0

length_plus : (at n : ℕ) (d : List ℕ) → length (tally_sum at n d) ≡ length d
unfolding tally_sum
length_plus at n d = length-set d at ((slice_index d at + n) % 2 ^ 32)

pub length_tallied : (n : ℕ) (kind : ℕ → ℕ) (d : List ℕ) → length (tallied n kind d) ≡ length d
unfolding tallied each_step one_more
length_tallied zero kind d = refl
length_tallied (suc n) kind d = length_plus (kind n) 1 (tallied n kind d) ∙ length_tallied n kind d

same : (a b : ℕ) → a % 2 ^ 32 ≡ b % 2 ^ 32 → (a + 1) % 2 ^ 32 % 2 ^ 32 ≡ (b + 1) % 2 ^ 32
same a b q = omega arith

module _ (kind : ℕ → ℕ) (d : List ℕ) (inside : (i : ℕ) → kind i < length d) where
  pub tallied_counts : (n v : ℕ) → slice_index (tallied n kind d) v % 2 ^ 32 ≡ (slice_index d v + tally n kind v) % 2 ^ 32
  unfolding tallied each_step one_more tally count tally_sum
  tallied_counts zero v = ap (λ x. x % 2 ^ 32) (sym (add-zero (slice_index d v)))
  tallied_counts (suc n) v = go (ℕ_discrete v (kind n)) (tallied_counts n v)
    where
      t : List ℕ
      t = tallied n kind d

      x : ℕ
      x = (slice_index t (kind n) + 1) % 2 ^ 32

      go : Dec (v ≡ kind n) → slice_index t v % 2 ^ 32 ≡ (slice_index d v + tally n kind v) % 2 ^ 32
          → slice_index (slice_set t (kind n) x) v % 2 ^ 32 ≡ (slice_index d v + (tally n kind v + unit (kind n == v))) % 2 ^ 32
      go (yes h) s =
          let one : unit (kind n == v) ≡ 1 = ap unit (eq-eqb (kind n) v (sym h)) in
          let sum : slice_index_or d v 0 + tally n kind v + 1 ≡ slice_index d v + (tally n kind v + unit (kind n == v)) = omega (arith, one) in
          ap (λ i. slice_index (slice_set t (kind n) x) i % 2 ^ 32) h
          ∙ ap (λ y. y % 2 ^ 32) (get_or-set_same t (kind n) x 0 (omega (arith, inside n, length_tallied n kind d)))
          ∙ same (slice_index t (kind n)) (slice_index d v + tally n kind v) (ap (λ i. slice_index t i % 2 ^ 32) (sym h) ∙ s)
          ∙ ap (λ y. y % 2 ^ 32) sum
      go (no h) s =
          let none : unit (kind n == v) ≡ 0 = ap unit (ne_eqb (kind n) v (λ q. h (sym q))) in
          let sum : slice_index_or d v 0 + tally n kind v ≡ slice_index d v + (tally n kind v + unit (kind n == v)) = omega (arith, none) in
          ap (λ y. y % 2 ^ 32) (get_or-set_other t (kind n) v x 0 h) ∙ s ∙ ap (λ y. y % 2 ^ 32) sum

-- ---- kinds

-- A bit that differs counts 1.
pub differs_is : (a b : List ℕ) (k : ℕ) (t : Bool) (n : ℕ) → t ≡ not (bit a k == bit b k) → n ≡ from_bool t → n ≡ wrong_at a b k
unfolding wrong_at differs
differs_is a b k t n et en = en ∙ ap from_bool et ∙ go (bit a k == bit b k)
  where
    go : (t : Bool) → from_bool (not t) ≡ cond t 0 1
    go true = refl
    go false = refl

pub distance_fits : (a b : List ℕ) (n k v : ℕ) → Counting (wrong_at a b) 256 k n → v ≡ wrong_at a b k → Fits w64 (n + v)
unfolding wrong_at
distance_fits a b n k v c e =
    record { fits = omega (arith, c.upto, c.is, count_le k (wrong_at a b) (λ i. differs_le (bit a i) (bit b i)), differs_le (bit a k) (bit b k)) }

pub distance_done : (a b : List ℕ) (n k : ℕ) → Counting (wrong_at a b) 256 k n → 256 ≤ k → n ≡ distance 256 (bit a) (bit b)
unfolding distance wrong_at
distance_done a b n k c l = count_done c l

four_least : (n : ℕ) → min n 4 ≡ cond (nat_lt n 4) n 4
four_least n = grind (arith, nat_tests)

pub word_is : (sent got : List ℕ) (mark n few : ℕ) → n ≡ distance 256 (bit sent) (bit got) → few ≡ min n 4 → 7 + few * 4 + mark % 4 ≡ word_kind sent got mark
unfolding word_kind
word_is sent got mark n few en ef = rw (ef, en) (ap (λ x. 7 + x * 4 + mark % 4) (four_least (distance 256 (bit sent) (bit got))))

pub bit_is : (from : ℕ) (sent got kept : List ℕ) (i d e : ℕ) → d ≡ wrong_at sent got (128 + i) → e ≡ wrong_at sent kept (128 + i)
    → from + d + e * 2 ≡ bit_kind from sent got kept i
unfolding bit_kind
bit_is from sent got kept i d e ed ee = rw (ed, ee)

pub ruleset kinds = (word_is, bit_is)
