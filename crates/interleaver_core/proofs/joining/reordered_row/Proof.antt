-- `interleaver_core::joining::reordered_row` meets its contract: block after block is laid in.
-- Assumes nothing.
use Prim.Native.Nat.{◌-◌}
use Rattle.interleaver_spec.specs.BlockBuffer.{reordered_in}
use Rattle.interleaver_spec.proofs.BlockBufferLaws.{reordered_in_lem}
use Rattle.blocks.specs.Laying.{Laid, laying}
use borrow.Author.Rules.{rules}
use Rattle.interleaver_core.proofs.joining.reordered_row.Statement.{statement}
use Rattle.interleaver_core.proofs.joining.reordered_row.Tie as tie

ruleset kit = (rules, laying, reordered_in_lem)

abbrev invariant-loop-block : tie.invariant-loop-block
invariant-loop-block words row₀ block₀ row block = Laid (reordered_in words) block row

abbrev decreases-loop-block : tie.decreases-loop-block
decreases-loop-block words row₀ block₀ row block = 8 - block

pub reordered_row_spec : {M : Type 1} → statement M
reordered_row_spec =
    tie.close
    (tie.spec
    invariant-loop-block
    decreases-loop-block
    (λ c. search kit)  -- loop-holds
    (λ c. search kit)  -- slice-aggregate-lay
    (λ c κs. search kit)  -- block-in-requires
    (λ c κs. search kit)  -- reorder-requires
    (λ c κs. search kit)  -- lay-requires
    (λ c. search kit)  -- add-block
    (λ c. search kit)  -- loop-less
    (λ c. search kit)  -- loop-again
    (λ c. search kit))  -- returns
