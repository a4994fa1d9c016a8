-- A call's result in the numbers of 01, "Turned-back calls". Each call has one law that gives its result test by test in the
-- order of 01's table: `repair_result`, `encode_result` and so on, in ResultLaws.antt of the call's crate.
-- Assumes nothing.
use Rattle.std.specs.Prelude.{ℕ}
use Rattle.calls.specs.Answers.{Answer}
use Rattle.calls.specs.Answers.{refusal_of, index_of, value_or}

-- The refusal number, or 0; the number that the call gives; the index.
pub record Result : Type 0 where
  pub refusal : ℕ
  pub value : ℕ
  pub index : ℕ

abbrev pub result : ℕ → ℕ → ℕ → Result
result r v i = record { refusal = r; value = v; index = i }

-- That of an answer. `lent` is the value of a refused call: the pair number that was lent, or 0.
unfoldable pub result_of : ℕ → Answer → Result
result_of lent a = result (refusal_of a) (value_or a lent) (index_of a)
