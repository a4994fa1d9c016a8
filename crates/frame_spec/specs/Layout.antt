-- The layout of a sub-frame in closed forms, as the code computes it. LayoutLaws.antt shows that they are what Frames.antt counts.
-- Assumes nothing.
use Rattle.std.specs.Prelude.{cond, ℕ, ◌+◌, ◌*◌, ◌/◌, ◌%◌, eqb}

-- All cells of sub-frame s below this one are overhead, and of the others the pilots alone.
unfoldable pub edge : ℕ → ℕ
edge s = cond (eqb s 0) 110 11

-- How many of the cells below the edge are no pilots.
unfoldable pub gap : ℕ → ℕ
gap s = cond (eqb s 0) 106 10

-- The cell of sub-frame s that carries payload cell y of it.
unfoldable pub payload_position : ℕ → ℕ → ℕ
payload_position s y = (y + gap s) / 31 * 32 + 1 + (y + gap s) % 31
