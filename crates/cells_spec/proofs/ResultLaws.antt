-- The results of bits to cells and cells to bits, in the numbers of 01.
-- Assumes nothing.
use Rattle.std.specs.Prelude.{◌≡◌, cond, not, ◌||◌, List, ℕ, ◌*◌, eqb, ltb, length}
use Rattle.std.proofs.Common.{◌∙◌}
use Rattle.calls.specs.Results.{result, result_of}
use Rattle.calls.specs.Calls.{misfit, off_grid}
use Rattle.calls.proofs.ResultLaws.{results, call_result}
use Rattle.cells_spec.specs.Modulation.{Modulation, cells_per_buffer}
use Rattle.cells_spec.specs.Cells.{payload_rule, first_illegal}
use Rattle.cells_spec.specs.Calls.{illegal_in, map_call, demap_call}

-- 1 where a lent buffer is not of its length; otherwise 0.
pub map_result : (p : Modulation) (bits cells : List ℕ) → result_of 0 (map_call p bits cells).answer
    ≡ cond (not (eqb (length bits) 21504) || not (eqb (length cells) (cells_per_buffer p * 2))) (result 1 0 0)
    (result 0 0 0)
unfolding misfit
map_result p bits cells = call_result 0 _ _ _ ∙ simp results

-- 5, with its index, where a byte of the cells is illegal.
pub demap_result : (p : Modulation) (cells bits : List ℕ) → result_of 0 (demap_call p cells bits).answer
    ≡ cond (not (eqb (length cells) (cells_per_buffer p * 2)) || not (eqb (length bits) 21504)) (result 1 0 0)
    (cond (ltb (first_illegal (payload_rule p) cells) (length cells)) (result 5 0 (first_illegal (payload_rule p) cells))
    (result 0 0 0))
unfolding misfit illegal_in off_grid
demap_result p cells bits = call_result 0 _ _ _ ∙ simp results
