-- The super-frame. 01, "Super-frame": "48 sub-frames of 3,712 cells. Overhead cells are numbers 0, 32, 64, .. of a sub-frame (pilots),
-- its cells 0 to 10 (training), and in sub-frame 0 also cells 11 to 109. The rest carry payload, in order".
-- The index of a cell in the overhead list of its sub-frame, or in the payload, is the number of such cells before it.
-- Assumes nothing.
use Rattle.std.specs.Prelude.{Bool, cond, not, ◌&&◌, ◌||◌, List, ℕ, suc, ◌+◌, ◌-◌, ◌*◌, ◌/◌, ◌%◌, eqb, leb, ltb, get_or, take, drop}
use Rattle.bits.specs.Lists.{tabulate}
use Rattle.bits.specs.Count.{count, differs}
use Rattle.bits.specs.Least.{least}
use Rattle.cells_spec.specs.Modulation.{Modulation}

-- ---- overhead and payload cells

-- Cell m of sub-frame s is overhead.
unfoldable pub is_overhead : ℕ → ℕ → Bool
is_overhead s m = eqb (m % 32) 0 || ltb m 11 || (eqb s 0 && ltb m 110)

-- How many overhead cells, and how many payload cells, stand before cell m of sub-frame s.
unfoldable pub overhead_before : ℕ → ℕ → ℕ
overhead_before s m = count m (λ i. cond (is_overhead s i) 1 0)

unfoldable pub payload_before : ℕ → ℕ → ℕ
payload_before s m = count m (λ i. cond (is_overhead s i) 0 1)

-- How many there are in sub-frame s.
unfoldable pub overhead_cells : ℕ → ℕ
overhead_cells s = overhead_before s 3712

unfoldable pub payload_cells : ℕ → ℕ
payload_cells s = payload_before s 3712

-- How many there are in the sub-frames before s.
unfoldable pub overhead_start : ℕ → ℕ
overhead_start s = count s overhead_cells

unfoldable pub payload_start : ℕ → ℕ
payload_start s = count s payload_cells

-- ---- framing

-- "the whole overhead list, of which the call reads only the cells of that sub-frame"; a cell is two bytes.
unfoldable pub own_overhead : ℕ → List ℕ → List ℕ
own_overhead s overhead = take (overhead_cells s * 2) (drop (overhead_start s * 2) overhead)

-- "Framing places both": byte h of cell m of sub-frame s, and all of it. `own` is the sub-frame's own part of the overhead list.
unfoldable pub frame_byte : ℕ → List ℕ → List ℕ → ℕ → ℕ → ℕ
frame_byte s payload own m h = cond (is_overhead s m) (get_or own (overhead_before s m * 2 + h) 0) (get_or payload (payload_before s m * 2 + h) 0)

unfoldable pub frame_at : ℕ → List ℕ → List ℕ → ℕ → ℕ
frame_at s payload own j = frame_byte s payload own (j / 2) (j % 2)

unfoldable pub framed : ℕ → List ℕ → List ℕ → List ℕ
framed s payload own = tabulate 7424 (frame_at s payload own)

-- ---- legal cells

-- A frame is judged cell by cell: an illegal byte of cell m of sub-frame s, by the rule of overhead or by the profile's rule of payload
-- (02, E1: "Framing and overhead cells keep their layout. A payload cell with a level of −3 or 3 is illegal in this profile"), ..
unfoldable pub cell_rule : Modulation → ℕ → ℕ → ℕ → Bool
cell_rule p s m v = cond (is_overhead s m) (leb 16 v) (p.illegal v)

-- .. and of its byte j.
unfoldable pub frame_rule : Modulation → ℕ → ℕ → ℕ → Bool
frame_rule p s j v = cell_rule p s (j / 2) v

-- ---- unframing

-- Cell m of sub-frame s carries payload cell y of it.
unfoldable pub carries : ℕ → ℕ → ℕ → Bool
carries s y m = not (is_overhead s m) && eqb (payload_before s m) y

-- The cell of sub-frame s that carries payload cell y of it.
unfoldable pub payload_cell : ℕ → ℕ → ℕ
payload_cell s y = least 3712 (carries s y)

-- "Unframing gives the payload cells": byte j of them, and all.
unfoldable pub payload_at : ℕ → List ℕ → ℕ → ℕ
payload_at s frame j = get_or frame (payload_cell s (j / 2) * 2 + j % 2) 0

unfoldable pub unframed : ℕ → List ℕ → List ℕ
unframed s frame = tabulate (payload_cells s * 2) (payload_at s frame)

-- 1 where cell i of one buffer and cell k of another differ, in X or in Y; 0 where they are equal.
unfoldable pub cell_differs : List ℕ → ℕ → List ℕ → ℕ → ℕ
cell_differs a i b k = cond (eqb (get_or a (i * 2) 0) (get_or b (k * 2) 0)) (differs (get_or a (i * 2 + 1) 0) (get_or b (k * 2 + 1) 0)) 1

-- "the number of overhead cells that differ from the lent list"
unfoldable pub overhead_differs : ℕ → List ℕ → List ℕ → ℕ → ℕ
overhead_differs s frame own m = cond (is_overhead s m) (cell_differs frame m own (overhead_before s m)) 0

unfoldable pub differing : ℕ → List ℕ → List ℕ → ℕ
differing s frame own = count 3712 (overhead_differs s frame own)

-- ---- the super-frame

-- "Payload runs on from buffer to buffer and sub-frame to sub-frame": the sub-frame and the cell in it that carry payload cell x of a
-- super-frame.
unfoldable pub sub_frame_of : ℕ → ℕ
sub_frame_of x = least 48 (λ s. ltb x (payload_start (suc s)))

unfoldable pub cell_of : ℕ → ℕ
cell_of x = payload_cell (sub_frame_of x) (x - payload_start (sub_frame_of x))
