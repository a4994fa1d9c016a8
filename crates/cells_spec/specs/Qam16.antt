-- 16-QAM. 01, "Cells": "A byte's bits c0 (most significant) to c7 are one symbol. (c0,c2) is I of X, (c4,c6) Q of X, (c1,c3) I of Y,
-- (c5,c7) Q of Y."
-- Assumes nothing.
use Rattle.std.specs.Prelude.{Bool, cond, ℕ, eqb, leb}
use Rattle.bits.specs.Bits.{bit_of}
use Rattle.cells_spec.specs.Levels.{level, rails}

-- X and Y of the byte b.
unfoldable pub x_of : ℕ → ℕ
x_of b = rails (level (bit_of 8 b 0) (bit_of 8 b 2)) (level (bit_of 8 b 4) (bit_of 8 b 6))

unfoldable pub y_of : ℕ → ℕ
y_of b = rails (level (bit_of 8 b 1) (bit_of 8 b 3)) (level (bit_of 8 b 5) (bit_of 8 b 7))

unfoldable pub cell_byte : ℕ → ℕ → ℕ
cell_byte b h = cond (eqb h 0) (x_of b) (y_of b)

-- "A byte of 16 or more is illegal."
abbrev pub illegal : ℕ → Bool
illegal v = leb 16 v
