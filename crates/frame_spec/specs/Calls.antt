-- The calls: framing and unframing a sub-frame, with the refusals tested in the order of 01, "Turned-back calls".
-- Assumes nothing.
use Rattle.std.specs.Prelude.{Bool, not, ◌||◌, List, [], ◌∷◌, ◌++◌, ℕ, ◌+◌, ◌*◌, eqb, ltb, length}
use Rattle.std.specs.Prelude.{Ok}
use Rattle.calls.specs.declared.Refusal.TheVariants.{Misfit}
use Rattle.calls.specs.Calls.{After, after, Test, refuse, misfit, no_sub_frame, off_grid, call}
use Rattle.cells_spec.specs.Modulation.{Modulation}
use Rattle.cells_spec.specs.Cells.{overhead_rule, payload_rule, first_illegal}
use Rattle.cells_spec.specs.Calls.{illegal_in}
use Rattle.frame_spec.specs.Frames.{payload_cells, overhead_start, own_overhead, framed, frame_rule, unframed, differing}

-- "payload 6,980 or 7,172 bytes (not measured when the number is above 47)"
unfoldable pub payload_fits : ℕ → List ℕ → Bool
payload_fits number payload = ltb 47 number || eqb (length payload) (payload_cells number * 2)

unfoldable pub payload_misfit : ℕ → List ℕ → Test
payload_misfit number payload = refuse Misfit (not (payload_fits number payload))

-- No. 5, "overhead list first": of the sub-frame's own cells; the index counts in the whole lent list.
unfoldable pub overhead_index : ℕ → List ℕ → ℕ
overhead_index number overhead = overhead_start number * 2 + first_illegal overhead_rule (own_overhead number overhead)

unfoldable pub overhead_illegal : ℕ → List ℕ → Test
overhead_illegal number overhead =
    off_grid (overhead_index number overhead) (first_illegal overhead_rule (own_overhead number overhead)) (length (own_overhead number overhead))

-- What both calls test first: No. 1 of the three lent buffers; No. 4; No. 5 of the overhead list.
unfoldable pub sub_frame_tests : ℕ → List ℕ → List ℕ → List ℕ → List Test
sub_frame_tests number overhead frame payload =
    misfit overhead 12288 ∷ misfit frame 7424 ∷ payload_misfit number payload ∷ no_sub_frame number ∷ overhead_illegal number overhead ∷ []

-- Framing reads the payload and writes the frame.
abbrev pub frame_call : Modulation → ℕ → List ℕ → List ℕ → List ℕ → After (List ℕ)
frame_call p number payload overhead frame =
    call (sub_frame_tests number overhead frame payload ++ illegal_in (payload_rule p) payload ∷ []) frame
    (after (Ok 0) (framed number payload (own_overhead number overhead)))

-- Unframing reads the frame and writes the payload; it gives the number of overhead cells that differ.
abbrev pub unframe_call : Modulation → ℕ → List ℕ → List ℕ → List ℕ → After (List ℕ)
unframe_call p number frame overhead payload =
    call (sub_frame_tests number overhead frame payload ++ illegal_in (frame_rule p number) frame ∷ []) payload
    (after (Ok (differing number frame (own_overhead number overhead))) (unframed number frame))
