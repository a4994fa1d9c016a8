-- Laws of the sums over marks.
-- Assumes nothing.
use Rattle.std.specs.Prelude.{◌≡◌, List, ℕ, ◌+◌, ◌*◌, ◌<◌, ◌≤◌, length, get_or}
use Rattle.std.proofs.Common.{ap₂, arith, Fits}
use Rattle.std.specs.Int.{w32}
use Rattle.bits.proofs.Folding.{Counting, count_start, count_more, count_done}
use Rattle.word_spec.specs.Marks.{flips_in, lost_in}
use Rattle.marks.specs.Marks.{sum_of, mark_sums}

-- acc is the sum of what the first k marks tell, each at most 2.
pub record MarkSum (told : ℕ → ℕ) (marks : List ℕ) (k acc : ℕ) : Type 0 where
  pub is : Counting (λ i. told (get_or marks i 0)) (length marks) k acc
  pub small : acc ≤ k * 2

pub mark_sum_none : (told : ℕ → ℕ) (marks : List ℕ) → MarkSum told marks 0 0
mark_sum_none told marks = record { is = count_start _ (length marks); small = omega arith }

module _ {told : ℕ → ℕ} {marks : List ℕ} {k acc : ℕ} (v : ℕ) (a : MarkSum told marks k acc) (l : k < length marks) (few : v ≤ 2) where
  pub mark_sum_more : v ≡ told (get_or marks k 0) → MarkSum told marks (k + 1) (acc + v)
  mark_sum_more e = record { is = count_more v a.is l e; small = omega (arith, a.small) }

  pub mark_sum_fits : length marks ≤ 65536 → Fits w32 (acc + v)
  mark_sum_fits h = record { fits = omega (arith, a.small) }

pub mark_sum_done : {marks : List ℕ} {k flips lost : ℕ} → MarkSum flips_in marks k flips → MarkSum lost_in marks k lost → length marks ≤ k
    → record { flips = flips; lost = lost } ≡ mark_sums marks
unfolding sum_of
mark_sum_done f l h = ap₂ (λ x y. record { flips = x; lost = y }) (count_done f.is h) (count_done l.is h)

pub one_is_few : {v : ℕ} → v ≤ 1 → v ≤ 2
one_is_few h = omega arith

pub ruleset mark_summing = (mark_sum_none, mark_sum_more, mark_sum_fits, mark_sum_done, one_is_few)
