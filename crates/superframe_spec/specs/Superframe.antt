-- A super-frame made of the coded pairs of both encoders, over a profile. 01, "Super-frame": "Payload runs on from buffer to buffer and
-- sub-frame to sub-frame". The calls of interleaving, cells and framing, one after the other, over its buffers and 48 sub-frames.
-- Assumes nothing.
use Rattle.std.specs.Prelude.{List, ℕ, ◌*◌}
use Rattle.bits.specs.Parts.{part, part_of, end_to_end}
use Rattle.interleaver_spec.specs.Interleaving.{interleaved}
use Rattle.cells_spec.specs.Modulation.{Modulation, cells_per_buffer}
use Rattle.cells_spec.specs.Cells.{to_cells}
use Rattle.frame_spec.specs.Frames.{payload_cells, payload_start, own_overhead, framed}

-- Buffer b of the super-frame is made of 21 pairs of either encoder.
unfoldable pub buffer_cells : Modulation → List ℕ → List ℕ → ℕ → List ℕ
buffer_cells p pairs0 pairs1 b = to_cells p (interleaved (part_of 10752 pairs0 b) (part_of 10752 pairs1 b))

-- The payload of the super-frame.
unfoldable pub payload_of_pairs : Modulation → List ℕ → List ℕ → List ℕ
payload_of_pairs p pairs0 pairs1 = end_to_end p.bits (cells_per_buffer p * 2) (buffer_cells p pairs0 pairs1)

-- Sub-frame s of the 48, whose payload is its own part of it.
unfoldable pub sub_frame : List ℕ → List ℕ → ℕ → List ℕ
sub_frame cells overhead s = framed s (part (payload_start s * 2) (payload_cells s * 2) cells) (own_overhead s overhead)

unfoldable pub frames_end_to_end : List ℕ → List ℕ → List ℕ
frames_end_to_end cells overhead = end_to_end 48 7424 (sub_frame cells overhead)

unfoldable pub superframe : Modulation → List ℕ → List ℕ → List ℕ → List ℕ
superframe p pairs0 pairs1 overhead = frames_end_to_end (payload_of_pairs p pairs0 pairs1) overhead
