-- `interleaver_core::buffer::put_four` meets its contract: the four words are filled in.
-- Assumes nothing.
use Prim.Native.Nat.{◌+◌, ◌-◌, ◌*◌}
use Rattle.bits.specs.Filling.{Filling, fill}
use Rattle.interleaver_spec.specs.BlockBuffer.{joined_word}
use Rattle.interleaver_spec.proofs.BlockBufferLaws.{four_word}
use borrow.Author.Rules.{rules}
use Rattle.interleaver_core.proofs.buffer.put_four.Statement.{statement}
use Rattle.interleaver_core.proofs.buffer.put_four.Tie as tie

ruleset kit = (rules, fill, four_word)

abbrev invariant-loop-subset : tie.invariant-loop-subset
invariant-loop-subset rows x words₀ subset₀ words subset = Filling (λ s. joined_word rows (x * 4 + s)) 4 subset words

abbrev decreases-loop-subset : tie.decreases-loop-subset
decreases-loop-subset rows x words₀ subset₀ words subset = 4 - subset

pub put_four_spec : {M : Type 1} → statement M
put_four_spec =
    tie.close
    (tie.spec
    invariant-loop-subset
    decreases-loop-subset
    (λ c. search kit)  -- loop-holds
    (λ c. search kit)  -- mul-words
    (λ c. search kit)  -- mul-words-2
    (λ c. search kit)  -- index-1-words
    (λ c. search kit)  -- index-2-words
    (λ c. search kit)  -- mul-words-3
    (λ c. search kit)  -- slice-write-words
    (λ c. search kit)  -- add-subset
    (λ c. search kit)  -- loop-less
    (λ c. search kit)  -- loop-again
    (λ c. search kit)  -- same-length
    (λ c. search kit))  -- returns
