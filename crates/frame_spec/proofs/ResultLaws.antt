-- The results of framing and unframing, in the numbers of 01.
-- Assumes nothing.
use Rattle.std.specs.Prelude.{◌≡◌, cond, not, ◌||◌, List, ℕ, eqb, ltb, length}
use Rattle.std.proofs.Common.{◌∙◌}
use Rattle.calls.specs.Results.{result, result_of}
use Rattle.calls.specs.Calls.{misfit, no_sub_frame, off_grid}
use Rattle.calls.proofs.ResultLaws.{results, call_result}
use Rattle.cells_spec.specs.Modulation.{Modulation}
use Rattle.cells_spec.specs.Cells.{overhead_rule, payload_rule, first_illegal}
use Rattle.cells_spec.specs.Calls.{illegal_in}
use Rattle.frame_spec.specs.Frames.{own_overhead, frame_rule, differing}
use Rattle.frame_spec.specs.Calls.{payload_fits, payload_misfit, overhead_index, overhead_illegal, sub_frame_tests, frame_call, unframe_call}

-- 1 where a lent buffer is not of its length, 4 where there is no such frame, 5 with its index where a byte of the sub-frame's
-- overhead cells is illegal, and then where one of the payload is; otherwise 0.
pub frame_result : (p : Modulation) (number : ℕ) (payload overhead frame : List ℕ)
    → result_of 0 (frame_call p number payload overhead frame).answer
    ≡ cond (not (eqb (length overhead) 12288) || not (eqb (length frame) 7424) || not (payload_fits number payload)) (result 1 0 0)
    (cond (ltb 47 number) (result 4 0 0)
    (cond (ltb (first_illegal overhead_rule (own_overhead number overhead)) (length (own_overhead number overhead))) (result 5 0 (overhead_index number overhead))
    (cond (ltb (first_illegal (payload_rule p) payload) (length payload)) (result 5 0 (first_illegal (payload_rule p) payload))
    (result 0 0 0))))
unfolding misfit payload_misfit no_sub_frame overhead_illegal illegal_in off_grid sub_frame_tests
frame_result p number payload overhead frame = call_result 0 _ _ _ ∙ simp results

-- The same with the frame's bytes for the payload's; and the number of overhead cells that differ.
pub unframe_result : (p : Modulation) (number : ℕ) (frame overhead payload : List ℕ)
    → result_of 0 (unframe_call p number frame overhead payload).answer
    ≡ cond (not (eqb (length overhead) 12288) || not (eqb (length frame) 7424) || not (payload_fits number payload)) (result 1 0 0)
    (cond (ltb 47 number) (result 4 0 0)
    (cond (ltb (first_illegal overhead_rule (own_overhead number overhead)) (length (own_overhead number overhead))) (result 5 0 (overhead_index number overhead))
    (cond (ltb (first_illegal (frame_rule p number) frame) (length frame)) (result 5 0 (first_illegal (frame_rule p number) frame))
    (result 0 (differing number frame (own_overhead number overhead)) 0))))
unfolding misfit payload_misfit no_sub_frame overhead_illegal illegal_in off_grid sub_frame_tests
unframe_result p number frame overhead payload = call_result 0 _ _ _ ∙ simp results
