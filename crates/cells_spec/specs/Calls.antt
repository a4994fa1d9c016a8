-- The calls: bits to cells and cells to bits, with the refusals tested in the order of 01, "Turned-back calls".
-- Assumes nothing.
use Rattle.std.specs.Prelude.{Bool, List, [], ◌∷◌, ℕ, ◌*◌, length}
use Rattle.std.specs.Prelude.{Ok}
use Rattle.calls.specs.Calls.{After, after, Test, misfit, off_grid, call}
use Rattle.cells_spec.specs.Modulation.{Modulation, cells_per_buffer}
use Rattle.cells_spec.specs.Cells.{payload_rule, first_illegal, to_cells, to_bits}

-- No. 5 of a buffer that the call reads whole, by a rule.
unfoldable pub illegal_in : (ℕ → ℕ → Bool) → List ℕ → Test
illegal_in rule cells = off_grid (first_illegal rule cells) (first_illegal rule cells) (length cells)

-- A buffer: 21,504 bytes of bits ("Output 21,504 bytes") and its cells, two bytes each.
module _ (p : Modulation) where
  abbrev pub map_call : List ℕ → List ℕ → After (List ℕ)
  map_call bits cells = call (misfit bits 21504 ∷ misfit cells (cells_per_buffer p * 2) ∷ []) cells (after (Ok 0) (to_cells p bits))

  abbrev pub demap_call : List ℕ → List ℕ → After (List ℕ)
  demap_call cells bits =
      call (misfit cells (cells_per_buffer p * 2) ∷ misfit bits 21504 ∷ illegal_in (payload_rule p) cells ∷ []) bits (after (Ok 0) (to_bits p cells))
