-- What a mark says of its word. 01, "Rows and pairs": "Marks: .. each 0, 1 or 2 flips, or 3 for lost."
-- Assumes nothing.
use Rattle.std.specs.Prelude.{ℕ, zero, suc}

pub data MarkMeaning : Type 0 where
  not_lost : MarkMeaning
  lost : MarkMeaning
  neither : MarkMeaning

-- By cases of the mark; any other number says neither.
unfoldable pub mark_meaning : ℕ → MarkMeaning
mark_meaning zero = not_lost
mark_meaning (suc zero) = not_lost
mark_meaning (suc (suc zero)) = not_lost
mark_meaning (suc (suc (suc zero))) = lost
mark_meaning (suc (suc (suc (suc m)))) = neither

-- What a mark adds to a sum of flips, and to a number of lost words: 0 or 1.
unfoldable pub flips_in : ℕ → ℕ
flips_in mark = flips_said (mark_meaning mark)
  where
    flips_said : MarkMeaning → ℕ
    flips_said not_lost = mark
    flips_said lost = 0
    flips_said neither = 0

unfoldable pub lost_in : ℕ → ℕ
lost_in mark = lost_said (mark_meaning mark)
  where
    lost_said : MarkMeaning → ℕ
    lost_said not_lost = 0
    lost_said lost = 1
    lost_said neither = 0
