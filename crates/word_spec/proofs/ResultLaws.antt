-- The result of the call that repairs a word, in the numbers of 01.
-- Assumes nothing.
use Rattle.std.specs.Prelude.{◌≡◌, Bool, cond, not, List, ℕ, eqb, length}
use Rattle.std.proofs.Common.{◌∙◌}
use Rattle.bits.specs.Bits.{bit}
use Rattle.calls.specs.Results.{result, result_of}
use Rattle.calls.specs.Calls.{misfit}
use Rattle.calls.proofs.ResultLaws.{results, call_result}
use Rattle.word_spec.specs.Repair.{repair, mark}
use Rattle.word_spec.specs.Calls.{repair_call}

-- 1 where the word is not of 32 bytes; otherwise 0, and the number of flips or 3 for lost.
pub repair_result : (word : List ℕ) (front : Bool) → result_of 0 (repair_call word front).answer
    ≡ cond (not (eqb (length word) 32)) (result 1 0 0)
    (result 0 (mark (repair front (bit word))) 0)
unfolding misfit
repair_result word front = call_result 0 _ _ _ ∙ simp results
