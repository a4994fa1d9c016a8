-- The first place of a list whose value passes a test, and the invariant of the loop that looks for it: none / more / hit or end.
-- The test is of the place and of the value.
-- Assumes nothing.
use Rattle.std.specs.Prelude.{◌≡◌, Bool, true, false, List, ℕ, ◌+◌, ◌<◌, ◌≤◌, length, get_or}
use Rattle.std.proofs.Math.Path.{sym}
use Rattle.std.proofs.Common.{◌∙◌, le_antisymm, arith, below_none, below_more}
use Rattle.bits.specs.Least.{least}
use Rattle.bits.specs.LeastLaws.{least_is, least_none, least_past}

-- The index of the first that passes; the length where none does. (z is what stands past the end, where no test is made.)
unfoldable pub first : {A : Type 0} → A → (ℕ → A → Bool) → List A → ℕ
first z p s = least (length s) (λ j. p j (get_or s j z))

-- None of the first i passes.
pub record Seeking {A : Type 0} (z : A) (p : ℕ → A → Bool) (s : List A) (i : ℕ) : Type 0 where
  pub upto : i ≤ length s
  pub before : (k : ℕ) → k < i → p k (get_or s k z) ≡ false

module _ {A : Type 0} (z : A) (p : ℕ → A → Bool) (s : List A) where
  pub seek_none : Seeking z p s 0
  seek_none = record { upto = omega arith; before = below_none (λ k. p k (get_or s k z) ≡ false) }

  -- Where none passes it is the length, and where it is past the end none passes.
  pub first_none : ((k : ℕ) → k < length s → p k (get_or s k z) ≡ false) → length s ≡ first z p s
  unfolding first
  first_none none = sym (least_none (length s) (λ j. p j (get_or s j z)) none)

  pub none_passes : length s ≤ first z p s → (k : ℕ) → k < length s → p k (get_or s k z) ≡ false
  unfolding first
  none_passes h = least_past (length s) (λ j. p j (get_or s j z)) h

module _ {A : Type 0} {z : A} {p : ℕ → A → Bool} {s : List A} {i : ℕ} (h : Seeking z p s i) where
  pub seek_more : i < length s → p i (get_or s i z) ≡ false → Seeking z p s (i + 1)
  seek_more l e = record { upto = omega arith; before = below_more (λ k. p k (get_or s k z) ≡ false) i h.before e }

  pub seek_hit : i < length s → p i (get_or s i z) ≡ true → i ≡ first z p s
  unfolding first
  seek_hit l e = sym (least_is (length s) (λ j. p j (get_or s j z)) i l e h.before)

  pub seek_all : length s ≤ i → length s ≡ first z p s
  seek_all l = first_none z p s (λ k lk. h.before k (omega arith))

  pub seek_end : length s ≤ i → i ≡ first z p s
  seek_end l = le_antisymm h.upto l ∙ seek_all l

pub ruleset seek = (seek_none, seek_more, seek_hit, seek_end, seek_all)
