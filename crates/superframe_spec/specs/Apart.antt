-- A super-frame taken apart to the coded pairs of both encoders, over a profile. 01, "Whole runs": "Unframing .., cells to bits and taking
-- apart give the pairs received." The calls of framing, cells and interleaving, one after the other, over its 48 sub-frames and its
-- buffers. Assumes nothing.
use Rattle.std.specs.Prelude.{Bool, List, [], ◌∷◌, ℕ, ◌+◌, ◌-◌, ◌*◌, ◌/◌, ◌%◌, get_or}
use Rattle.bits.specs.Count.{count}
use Rattle.bits.specs.Lists.{tabulate}
use Rattle.bits.specs.Parts.{part_of, end_to_end}
use Rattle.std.specs.Prelude.{Ok}
use Rattle.calls.specs.Calls.{call}
use Rattle.interleaver_spec.specs.Interleaving.{apart}
use Rattle.interleaver_spec.specs.Calls.{pair_buffers, Deinterleaved, after_deinterleave}
use Rattle.cells_spec.specs.Modulation.{Modulation, cells_per_buffer}
use Rattle.cells_spec.specs.Cells.{overhead_rule, to_bits}
use Rattle.cells_spec.specs.Calls.{illegal_in}
use Rattle.frame_spec.specs.Frames.{payload_start, own_overhead, frame_rule, unframed, differing, sub_frame_of}

-- "Unframing gives the payload cells": byte h of payload cell x of a super-frame, whose 48 frames stand end to end, and all of them.
unfoldable pub taken_byte : List ℕ → ℕ → ℕ → ℕ
taken_byte line x h = get_or (unframed (sub_frame_of x) (part_of 7424 line (sub_frame_of x))) ((x - payload_start (sub_frame_of x)) * 2 + h) 0

unfoldable pub taken_cells : List ℕ → List ℕ
taken_cells line = tabulate 344064 (λ j. taken_byte line (j / 2) (j % 2))

-- Buffer b of them gives 21 pairs of encoder e; and the pairs of all buffers.
unfoldable pub buffer_pairs : Modulation → List ℕ → ℕ → ℕ → List ℕ
buffer_pairs p cells e b = apart (to_bits p (part_of (cells_per_buffer p * 2) cells b)) e

unfoldable pub taken_pairs : Modulation → List ℕ → ℕ → List ℕ
taken_pairs p cells e = end_to_end p.bits 10752 (buffer_pairs p cells e)

-- "the number of overhead cells that differ from the lent list", in all sub-frames.
unfoldable pub differing_in : List ℕ → List ℕ → ℕ → ℕ
differing_in line overhead s = differing s (part_of 7424 line s) (own_overhead s overhead)

unfoldable pub differing_all : List ℕ → List ℕ → ℕ
differing_all line overhead = count 48 (differing_in line overhead)

-- A byte of the frames is judged by the rule of its place in its sub-frame.
unfoldable pub line_rule : Modulation → ℕ → ℕ → Bool
line_rule p j v = frame_rule p (j / 7424) (j % 7424) v

-- What taking a super-frame apart gives: the number of differing overhead cells, and the pairs.
abbrev pub taken_apart : Modulation → List ℕ → List ℕ → Deinterleaved
taken_apart p line overhead =
    after_deinterleave (Ok (differing_all line overhead)) (taken_pairs p (taken_cells line) 0) (taken_pairs p (taken_cells line) 1)

-- The step: No. 5, "an illegal byte in cells that the call reads", "overhead list first". The index counts in the whole overhead list, or
-- in the 48 frames as they stand end to end.
abbrev pub take_apart : Modulation → List ℕ → List ℕ → List ℕ → List ℕ → Deinterleaved
take_apart p line overhead pairs0 pairs1 =
    call (illegal_in overhead_rule overhead ∷ illegal_in (line_rule p) line ∷ []) (pair_buffers pairs0 pairs1) (taken_apart p line overhead)
