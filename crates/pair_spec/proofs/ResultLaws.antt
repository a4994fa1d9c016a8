-- The results of the calls that encode and receive a pair, in the numbers of 01.
-- Assumes nothing.
use Rattle.std.specs.Prelude.{◌≡◌, cond, not, ◌||◌, List, ℕ, ◌+◌, eqb, ltb, length}
use Rattle.std.proofs.Common.{◌∙◌}
use Rattle.calls.specs.Results.{result, result_of}
use Rattle.calls.specs.Calls.{misfit, stray_history, count_spent}
use Rattle.calls.proofs.ResultLaws.{results, call_result}
use Rattle.pair_spec.specs.Front.{encoder_of, next_pair}
use Rattle.pair_spec.specs.Calls.{encode_call, receive_call}

-- 1 where a lent buffer is not of its length, 6 where either front number differs from the call's or the encoder is above 1, 3 where the
-- count is spent, and then the pair number as it was lent; otherwise 0, and the next pair number.
pub encode_result : (payload coded history : List ℕ) (e P : ℕ) → result_of P (encode_call payload coded history e P).answer
    ≡ cond (not (eqb (length payload) 444) || not (eqb (length coded) 512) || not (eqb (length history) 5128)) (result 1 P 0)
    (cond (not (eqb (encoder_of history) e) || not (eqb (next_pair history) P) || ltb 1 e) (result 6 P 0)
    (cond (eqb P 4294967295) (result 3 P 0)
    (result 0 (P + 1) 0)))
unfolding misfit stray_history count_spent
encode_result payload coded history e P = call_result P _ _ _ ∙ simp results

pub receive_result : (coded payload marks history : List ℕ) (e P : ℕ) → result_of P (receive_call coded payload marks history e P).answer
    ≡ cond (not (eqb (length coded) 512) || not (eqb (length payload) 444) || not (eqb (length marks) 32) || not (eqb (length history) 5128)) (result 1 P 0)
    (cond (not (eqb (encoder_of history) e) || not (eqb (next_pair history) P) || ltb 1 e) (result 6 P 0)
    (cond (eqb P 4294967295) (result 3 P 0)
    (result 0 (P + 1) 0)))
unfolding misfit stray_history count_spent
receive_result coded payload marks history e P = call_result P _ _ _ ∙ simp results
