-- `interleaver_core::joining::subset_rows` meets its contract: the four block rows are made one by one.
-- Assumes nothing.
use Prim.Native.Nat.{◌-◌}
use Rattle.bits.specs.Filling.{Filling, fill}
use Rattle.interleaver_spec.specs.BlockBuffer.{subset_row_at}
use Rattle.interleaver_spec.proofs.BlockBufferLaws.{subset_row_lem}
use borrow.Author.Rules.{rules}
use Rattle.interleaver_core.proofs.joining.subset_rows.Statement.{statement}
use Rattle.interleaver_core.proofs.joining.subset_rows.Tie as tie

ruleset kit = (rules, fill, subset_row_lem)

abbrev invariant-loop-subset : tie.invariant-loop-subset
invariant-loop-subset pairs0 pairs1 x rows₀ subset₀ rows subset = Filling (subset_row_at pairs0 pairs1 x) 4 subset rows

abbrev decreases-loop-subset : tie.decreases-loop-subset
decreases-loop-subset pairs0 pairs1 x rows₀ subset₀ rows subset = 4 - subset

pub subset_rows_spec : {M : Type 1} → statement M
subset_rows_spec =
    tie.close
    (tie.spec
    invariant-loop-subset
    decreases-loop-subset
    (λ c. search kit)  -- loop-holds
    (λ c. search kit)  -- mul-rows
    (λ c κs. search kit)  -- block-row-of-requires
    (λ c κs. search kit)  -- sent-words-requires
    (λ c κs. search kit)  -- reordered-row-requires
    (λ c. search kit)  -- mul-rows-2
    (λ c. search kit)  -- array-set-from-rows
    (λ c. search kit)  -- add-subset
    (λ c. search kit)  -- loop-less
    (λ c. search kit)  -- loop-again
    (λ c. search kit))  -- returns
