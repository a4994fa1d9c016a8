-- The invariants of loops that take in one value after the other: of any total; bits into a number, first bit first; sums by exclusive or;
-- counts. Of each: none / more / done.
-- Assumes nothing.
use Rattle.std.specs.Prelude.{◌≡◌, refl, List, ℕ, zero, suc, ◌+◌, ◌*◌, ◌^◌, ◌<◌, ◌≤◌, length, get_or, take}
use Rattle.std.specs.List.{fold}
use Rattle.std.proofs.Common.{sym, ap, ap₂, ◌∙◌, pow-suc, arith, add-one, pow_mono}
use Rattle.std.proofs.lemmas.List.Sums as std_sums
use Rattle.std.proofs.Math.Seq.{take-length}
use Rattle.std.specs.Int.{Width}
use mir.Val.{Fits, bits}
use Rattle.bits.specs.Bits.{from_bits}
use Rattle.bits.proofs.BitLaws.{from_bits_lt, from_bits_next}
use Rattle.bits.specs.Count.{count}
use Rattle.bits.specs.Xor.{◌⊕◌, xor_sum}

-- acc is the total of f over the first k of n turns.
pub record Folding {F B : Type 0} (total : ℕ → F → B) (f : F) (n k : ℕ) (acc : B) : Type 0 where
  pub upto : k ≤ n
  pub is : acc ≡ total k f

module _ {F B : Type 0} where
  pub fold_none : (total : ℕ → F → B) (f : F) (n : ℕ) (acc : B) → acc ≡ total 0 f → Folding total f n 0 acc
  fold_none total f n acc e = record { upto = omega arith; is = e }

  pub fold_more : {total : ℕ → F → B} {f : F} {n k : ℕ} {acc : B} (next : B) → Folding total f n k acc → k < n → next ≡ total (suc k) f
      → Folding total f n (k + 1) next
  fold_more {total} {f} {n} {k} next h l e = record { upto = omega arith; is = e ∙ ap (λ i. total i f) (sym (add-one k)) }

  pub fold_done : {total : ℕ → F → B} {f : F} {n k : ℕ} {acc : B} → Folding total f n k acc → n ≤ k → acc ≡ total n f
  fold_done {total} {f} {n} {k} h l = let e : k ≡ n = omega (arith, h.upto) in h.is ∙ ap (λ i. total i f) e

-- The same in one expression: a total that grows by a step with each of f's values is the fold of that step over a list.
module _ {A B : Type 0} (total : ℕ → (ℕ → A) → B) (step : B → A → B) (more : (k : ℕ) (f : ℕ → A) → total (suc k) f ≡ step (total k f) (f k)) where
  pub total_from_fold : (a : B) (xs : List A) (d : A) → a ≡ total 0 (λ i. get_or xs i d) → fold step a xs ≡ total (length xs) (λ i. get_or xs i d)
  total_from_fold a xs d e = ap (fold step a) (sym (take-length xs)) ∙ upto (length xs) (omega arith)
    where
      upto : (k : ℕ) → k ≤ length xs → fold step a (take k xs) ≡ total k (λ i. get_or xs i d)
      upto zero l = e
      upto (suc k) l =
          ap (λ n. fold step a (take n xs)) (sym (add-one k)) ∙ std_sums.fold_more step a xs k d (omega arith)
          ∙ ap (λ b. step b (get_or xs k d)) (upto k (omega arith)) ∙ sym (more k (λ i. get_or xs i d))

-- ---- bits into a number

-- Of w bits that f gives, acc has taken k.
abbrev pub Gathering : (ℕ → ℕ) → ℕ → ℕ → ℕ → Type 0
Gathering = Folding from_bits

pub gather_none : (f : ℕ → ℕ) (w : ℕ) → Gathering f w 0 0
unfolding from_bits
gather_none f w = fold_none from_bits f w 0 refl

gather_room : {f : ℕ → ℕ} {w k acc : ℕ} → Gathering f w k acc → k < w → acc * 2 + 1 < 2 ^ w
gather_room {f} {w} {k} {acc} h l = omega (arith, h.is, from_bits_lt k f, pow-suc 2 k, pow_mono {i = suc k} {j = w} l)

-- Taking the next bit in does not wrap, at any width.
pub gather_mul : {f : ℕ → ℕ} {k acc : ℕ} (W : Width) → Gathering f (bits W) k acc → k < bits W → Fits W (acc * 2)
gather_mul W h l = record { fits = omega (arith, gather_room h l) }

pub gather_add : {f : ℕ → ℕ} {k acc : ℕ} (W : Width) (b : ℕ) → Gathering f (bits W) k acc → k < bits W → b < 2 → Fits W (acc * 2 + b)
gather_add W b h l small = record { fits = omega (arith, gather_room h l) }

pub gather_more : {f : ℕ → ℕ} {w k acc : ℕ} (b : ℕ) → Gathering f w k acc → k < w → b ≡ f k → b < 2 → Gathering f w (k + 1) (acc * 2 + b)
gather_more {f} {w} {k} {acc} b h l e small =
    record { upto = omega arith; is = ap (λ (x : ℕ). x * 2 + b) h.is ∙ from_bits_next k f b e small }

pub gather_done : {f : ℕ → ℕ} {w k acc : ℕ} → Gathering f w k acc → w ≤ k → acc ≡ from_bits w f
gather_done = fold_done

pub ruleset gather = (gather_none, gather_mul, gather_add, gather_more, gather_done)

-- ---- sums and counts

-- acc is the exclusive or of f's values at the first k of n places.
abbrev pub Summing : (ℕ → ℕ) → ℕ → ℕ → ℕ → Type 0
Summing = Folding xor_sum

pub sum_none : (f : ℕ → ℕ) (n : ℕ) → Summing f n 0 0
unfolding xor_sum
sum_none f n = fold_none xor_sum f n 0 refl

pub sum_more : {f : ℕ → ℕ} {n k acc : ℕ} (v : ℕ) → Summing f n k acc → k < n → v ≡ f k → Summing f n (k + 1) (acc ⊕ v)
unfolding xor_sum
sum_more v h l e = fold_more _ h l (ap₂ ◌⊕◌ h.is e)

pub sum_done : {f : ℕ → ℕ} {n k acc : ℕ} → Summing f n k acc → n ≤ k → acc ≡ xor_sum n f
sum_done = fold_done

pub ruleset summing = (sum_none, sum_more, sum_done)

pub sum_from_fold : {A : Type 0} (v : A → ℕ) (xs : List A) (d : A) → fold (λ acc x. acc ⊕ v x) 0 xs ≡ xor_sum (length xs) (λ i. v (get_or xs i d))
unfolding xor_sum
sum_from_fold v xs d = total_from_fold (λ k f. xor_sum k (λ i. v (f i))) (λ acc x. acc ⊕ v x) (λ k f. refl) 0 xs d refl

-- acc is the sum of f's values at the first k of n places.
abbrev pub Counting : (ℕ → ℕ) → ℕ → ℕ → ℕ → Type 0
Counting = Folding count

pub count_start : (f : ℕ → ℕ) (n : ℕ) → Counting f n 0 0
unfolding count
count_start f n = fold_none count f n 0 refl

pub count_more : {f : ℕ → ℕ} {n k acc : ℕ} (v : ℕ) → Counting f n k acc → k < n → v ≡ f k → Counting f n (k + 1) (acc + v)
unfolding count
count_more v h l e = fold_more _ h l (ap₂ ◌+◌ h.is e)

pub count_done : {f : ℕ → ℕ} {n k acc : ℕ} → Counting f n k acc → n ≤ k → acc ≡ count n f
count_done = fold_done

pub ruleset counting = (count_start, count_more, count_done)
