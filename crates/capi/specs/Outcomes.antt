-- What the exported functions answer: the answers of the library in numbers, by its own definitions.
-- Assumes nothing.
use Rattle.std.specs.Prelude.{Bool, not, ℕ, eqb, Result, Ok, Err}
use Rattle.calls.specs.declared.Refusal.{Refusal}
use Rattle.calls.specs.Answers.{Answer, number_of, refusal_of, index_of, value_or}
use Rattle.calls.specs.Results.{Result as CallResult}
use Rattle.line_file_spec.specs.declared.Header.{Header}
use Rattle.line_file_spec.specs.Reading.{stretch_result}
use Rattle.capi.specs.declared.Outcome.{Outcome}
use Rattle.capi.specs.declared.Line.{Line}

abbrev pub outcome : ℕ → ℕ → ℕ → Outcome
outcome r v i = record { refusal = r; value = v; index = i }

-- Refusal number, value and index of an answer; `refused` is the value of a refused call.
abbrev pub outcome_of : Answer → ℕ → Outcome
outcome_of a refused = outcome (refusal_of a) (value_or a refused) (index_of a)

-- A flag passed as a number: any but 0 is set.
abbrev pub flag : ℕ → Bool
flag n = not (eqb n 0)

-- An opened line file: the header's numbers, or zeros in a refusal.
abbrev pub line_of : Result Header Refusal → Line
line_of (Ok h) = record { refusal = 0; superframes = h.superframes; overhead = h.overhead; frames = h.frames }
line_of (Err r) = record { refusal = number_of r; superframes = 0; overhead = 0; frames = 0 }

-- A result of the library.
abbrev pub outcome_in : CallResult → Outcome
outcome_in r = outcome r.refusal r.value r.index

-- Where a sub-frame stands, n being the companion's number: its 7,424 bytes from f + 356,352×q + 7,424×s on; zeros in a refusal.
unfoldable pub stretch_of : ℕ → ℕ → ℕ → ℕ → Outcome
stretch_of n f q s = outcome_in (stretch_result n f q s)
