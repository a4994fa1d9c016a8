-- The results of interleaving and taking apart, in the numbers of 01.
-- Assumes nothing.
use Rattle.std.specs.Prelude.{◌≡◌, cond, not, ◌||◌, List, ℕ, eqb, length}
use Rattle.std.proofs.Common.{◌∙◌}
use Rattle.calls.specs.Results.{result, result_of}
use Rattle.calls.specs.Calls.{misfit}
use Rattle.calls.proofs.ResultLaws.{results, call_result}
use Rattle.interleaver_spec.specs.Calls.{interleave_call, deinterleave_call}

-- 1 where a lent buffer is not of its length; otherwise 0.
pub interleave_result : (pairs0 pairs1 bits : List ℕ) → result_of 0 (interleave_call pairs0 pairs1 bits).answer
    ≡ cond (not (eqb (length pairs0) 10752) || not (eqb (length pairs1) 10752) || not (eqb (length bits) 21504)) (result 1 0 0)
    (result 0 0 0)
unfolding misfit
interleave_result pairs0 pairs1 bits = call_result 0 _ _ _ ∙ simp results

pub deinterleave_result : (bits pairs0 pairs1 : List ℕ) → result_of 0 (deinterleave_call bits pairs0 pairs1).answer
    ≡ cond (not (eqb (length bits) 21504) || not (eqb (length pairs0) 10752) || not (eqb (length pairs1) 10752)) (result 1 0 0)
    (result 0 0 0)
unfolding misfit
deinterleave_result bits pairs0 pairs1 = call_result 0 _ _ _ ∙ simp results
