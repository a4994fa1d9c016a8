-- What the marks of received words add up to. 01, "Rows and pairs": "Marks: 32 bytes, word (2P, 0) first, each 0, 1 or 2 flips, or 3 for
-- lost."
-- Assumes nothing.
use Rattle.std.specs.Prelude.{List, ℕ, length, get_or}
use Rattle.bits.specs.Count.{count}
use Rattle.word_spec.specs.Marks.{flips_in, lost_in}
use Rattle.marks.specs.declared.Sums.{Sums}

-- The sum over all marks of what each one tells.
unfoldable pub sum_of : (ℕ → ℕ) → List ℕ → ℕ
sum_of told marks = count (length marks) (λ i. told (get_or marks i 0))

-- The flips and the lost words of marks.
abbrev pub mark_sums : List ℕ → Sums
mark_sums marks = record { flips = sum_of flips_in marks; lost = sum_of lost_in marks }
