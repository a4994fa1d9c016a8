-- Counters, and the kinds of words and bits that they tell apart.
-- Assumes nothing.
use Rattle.std.specs.Prelude.{ℕ, ◌+◌, ◌*◌, ◌%◌, ◌^◌, cond, List, ◌==◌, nat_lt, slice_index, slice_set}
use Rattle.bits.specs.Bits.{bit}
use Rattle.bits.specs.Count.{count, differs, distance}
use Rattle.calls.specs.Answers.{Answer}
use Rattle.std.specs.Prelude.{Err}
use Rattle.calls.specs.declared.Refusal.TheVariants.{Misfit, CountSpent}
use Rattle.calls.specs.Answers.{refusal_of}
use Rattle.loopback_core.specs.Steps.{each_step}

-- ---- counters

-- n added to the counter at a place, of 32 bits.
unfoldable pub tally_sum : ℕ → ℕ → List ℕ → List ℕ
tally_sum at n counts = slice_set counts at ((slice_index counts at + n) % 2 ^ 32)

-- Thing i counted at the place of its kind; and things 0 to n - 1.
unfoldable pub one_more : (ℕ → ℕ) → ℕ → List ℕ → List ℕ
one_more kind i counts = tally_sum (kind i) 1 counts

unfoldable pub tallied : ℕ → (ℕ → ℕ) → List ℕ → List ℕ
tallied n kind counts = each_step n (one_more kind) counts

-- How many of them are of kind v.
unfoldable pub tally : ℕ → (ℕ → ℕ) → ℕ → ℕ
tally n kind v = count n (λ i. cond (kind i == v) 1 0)

-- A call counted by its answer: at place 1 where it was done, and behind it by the refusal's number.
unfoldable pub answered : Answer → List ℕ → List ℕ
answered a counts = tally_sum (1 + refusal_of a) 1 counts

-- The refused calls before a pair: one with a byte too few, one with the pair number that no call takes.
abbrev pub refused_two : List ℕ → List ℕ
refused_two counts = answered (Err CountSpent) (answered (Err Misfit) counts)

-- ---- kinds

-- 1 where bit k of two buffers differs, and 0 otherwise.
unfoldable pub wrong_at : List ℕ → List ℕ → ℕ → ℕ
wrong_at a b k = differs (bit a k) (bit b k)

-- Words are counted from 7 on, by their wrong received bits, 0 to 3 or 4 for more, and by their marks, 0 to 3.
unfoldable pub word_kind : List ℕ → List ℕ → ℕ → ℕ
word_kind sent got mark = 7 + cond (nat_lt (distance 256 (bit sent) (bit got)) 4) (distance 256 (bit sent) (bit got)) 4 * 4 + mark % 4

-- The bits of a word's back half from a place on: 1 for wrong as received, 2 for wrong as kept.
unfoldable pub bit_kind : ℕ → List ℕ → List ℕ → List ℕ → ℕ → ℕ
bit_kind from sent got kept i = from + wrong_at sent got (128 + i) + wrong_at sent kept (128 + i) * 2
