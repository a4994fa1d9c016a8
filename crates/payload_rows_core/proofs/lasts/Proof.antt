-- `payload_rows_core::lasts` meets its contract: one word of each group a turn.
-- Assumes nothing.
use Prim.Native.Nat.{◌-◌}
use Rattle.payload_rows_core.specs.PayloadRows.{last_number}
use Rattle.payload_rows_core.specs.FourFronts.{FourFronts}
use Rattle.payload_rows_core.specs.PayloadRowLaws.{lastwise}
use borrow.Author.Rules.{rules}
use Rattle.payload_rows_core.proofs.lasts.Statement.{statement}
use Rattle.payload_rows_core.proofs.lasts.Tie as tie

ruleset kit = (rules, lastwise)

abbrev invariant-loop-n : tie.invariant-loop-n
invariant-loop-n payload end out₀ n₀ out n = FourFronts (last_number payload) n out

abbrev decreases-loop-n : tie.decreases-loop-n
decreases-loop-n payload end out₀ n₀ out n = 8 - n

pub lasts_spec : {M : Type 1} → statement M
lasts_spec =
    tie.close
    (tie.spec
    invariant-loop-n
    decreases-loop-n
    (λ c κs. search kit)  -- end-of-requires
    (λ c. search kit)  -- loop-holds
    (λ c κs. search kit)  -- fifteen-requires
    (λ c. search kit)  -- mul-out
    (λ c. search kit)  -- array-write-out
    (λ c κs. search kit)  -- fifteen-requires-2
    (λ c. search kit)  -- add-out
    (λ c. search kit)  -- mul-out-2
    (λ c. search kit)  -- array-write-out-2
    (λ c κs. search kit)  -- fifteen-requires-3
    (λ c. search kit)  -- add-out-2
    (λ c. search kit)  -- mul-out-3
    (λ c. search kit)  -- array-write-out-3
    (λ c. search kit)  -- slice-aggregate-fifteen
    (λ c κs. search kit)  -- fifteen-requires-4
    (λ c. search kit)  -- add-out-3
    (λ c. search kit)  -- mul-out-4
    (λ c. search kit)  -- array-write-out-4
    (λ c. search kit)  -- add-n
    (λ c. search kit)  -- loop-less
    (λ c. search kit)  -- loop-again
    (λ c. search kit))  -- returns
