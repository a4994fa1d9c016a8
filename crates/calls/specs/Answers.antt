-- What a call answers, in the numbers of 01, "Turned-back calls", and of 02.
-- Assumes nothing.
use Rattle.std.specs.Prelude.{ℕ, ◌≡◌, ◌≢◌, Result, Ok, Err}
use Rattle.calls.specs.declared.Refusal.{Refusal}
use Rattle.calls.specs.declared.Refusal.TheVariants.{Misfit, BadHeader, CountSpent, NoSuchFrame, OffGrid, StrayHistory}

-- What a call answers: done, with its number where it gives one and 0 otherwise; or refused.
abbrev pub Answer : Type 0
Answer = Result ℕ Refusal

-- 01's table: No. 1 misfit, 2 bad header, 3 count spent, 4 no such frame, 5 off grid. 02, E2: "Number 6, stray history".
abbrev pub number_of : Refusal → ℕ
number_of Misfit = 1
number_of BadHeader = 2
number_of CountSpent = 3
number_of NoSuchFrame = 4
number_of (OffGrid i) = 5
number_of StrayHistory = 6

-- "No. 5 also returns the byte index in the buffer where it first occurs, the others 0."
abbrev pub place_of : Refusal → ℕ
place_of Misfit = 0
place_of BadHeader = 0
place_of CountSpent = 0
place_of NoSuchFrame = 0
place_of (OffGrid i) = i
place_of StrayHistory = 0

-- An answer's refusal number, 0 where the call was done.
abbrev pub refusal_of : Answer → ℕ
refusal_of (Ok v) = 0
refusal_of (Err r) = number_of r

-- An answer's index.
abbrev pub index_of : Answer → ℕ
index_of (Ok v) = 0
index_of (Err r) = place_of r

-- The number that a call gave; in a refusal the one that stands for it there
-- ("A count (flips, differing cells) in a refused result is 0. Buffers and pair number stay.").
abbrev pub value_or : Answer → ℕ → ℕ
value_or (Ok v) refused = v
value_or (Err r) refused = refused

-- A call that was done, and one that was refused.
abbrev pub Accepted : Answer → Type 0
Accepted a = refusal_of a ≡ 0

abbrev pub TurnedBack : Answer → Type 0
TurnedBack a = refusal_of a ≢ 0
