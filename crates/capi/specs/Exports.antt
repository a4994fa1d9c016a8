-- What an exported call gives: its outcome in numbers, and what it may write as it leaves it. Each is that of the library's call.
-- Assumes nothing.
use Rattle.std.specs.Prelude.{ℕ}
use Rattle.calls.specs.Calls.{After}
use Rattle.capi.specs.declared.Outcome.{Outcome}
use Rattle.capi.specs.Outcomes.{outcome_of}

pub record Exported (B : Type 0) : Type 0 where
  pub outcome : Outcome
  pub written : B

abbrev pub exported : {B : Type 0} → Outcome → B → Exported B
exported o w = record { outcome = o; written = w }

-- `refused` is the value of a refused call.
unfoldable pub in_numbers : {B : Type 0} → ℕ → After B → Exported B
in_numbers refused x = exported (outcome_of x.answer refused) x.written
