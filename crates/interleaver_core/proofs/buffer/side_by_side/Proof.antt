-- `interleaver_core::buffer::side_by_side` meets its contract: four words after four.
-- Assumes nothing.
use Prim.Native.Nat.{◌-◌}
use Rattle.bits.specs.Filling.{Blocks, by_blocks}
use Rattle.interleaver_spec.specs.BlockBuffer.{joined_word, joined}
use borrow.Author.Rules.{rules}
use Rattle.interleaver_core.proofs.buffer.side_by_side.Statement.{statement}
use Rattle.interleaver_core.proofs.buffer.side_by_side.Tie as tie

ruleset kit = (rules, by_blocks)

abbrev invariant-loop-x : tie.invariant-loop-x
invariant-loop-x rows words₀ x₀ words x = Blocks (joined_word rows) 4 128 x words

abbrev decreases-loop-x : tie.decreases-loop-x
decreases-loop-x rows words₀ x₀ words x = 128 - x

pub side_by_side_spec : {M : Type 1} → statement M
unfolding joined
side_by_side_spec =
    tie.close
    (tie.spec
    invariant-loop-x
    decreases-loop-x
    (λ c. search kit)  -- loop-holds
    (λ c. search kit)  -- mul-a
    (λ c. search kit)  -- add-e
    (λ c. search kit)  -- mul-words
    (λ c. search kit)  -- sub-put-four
    (λ c. search kit)  -- part-words-start
    (λ c. search kit)  -- part-words-end
    (λ c κs. search kit)  -- put-four-requires
    (λ c. search kit)  -- add-x
    (λ c. search kit)  -- loop-less
    (λ c. search kit)  -- loop-again
    (λ c. search kit))  -- returns
