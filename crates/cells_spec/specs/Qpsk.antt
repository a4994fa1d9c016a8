-- QPSK. 02, E1: "a symbol takes four bits: c0 is I of X, c2 Q of X, c1 I of Y, c3 Q of Y; 0 is level −1 and 1 is level 1."
-- Assumes nothing.
use Rattle.std.specs.Prelude.{Bool, cond, ◌||◌, ℕ, zero, suc, ◌/◌, ◌%◌, eqb, leb, ℤ, pos, neg_ℤ}
use Rattle.bits.specs.Bits.{bit_of}
use Rattle.cells_spec.specs.Levels.{ordinal, rails}

-- The level of a bit.
unfoldable pub bit_level : ℕ → ℤ
bit_level zero = neg_ℤ (pos 1)
bit_level (suc b) = pos 1

-- X and Y of the symbol s.
unfoldable pub x_of : ℕ → ℕ
x_of s = rails (bit_level (bit_of 4 s 0)) (bit_level (bit_of 4 s 2))

unfoldable pub y_of : ℕ → ℕ
y_of s = rails (bit_level (bit_of 4 s 1)) (bit_level (bit_of 4 s 3))

unfoldable pub cell_byte : ℕ → ℕ → ℕ
cell_byte s h = cond (eqb h 0) (x_of s) (y_of s)

-- "A payload cell with a level of −3 or 3 is illegal in this profile": (I+3)/2 of a byte is its quotient by 4, and (Q+3)/2 the rest.
unfoldable pub outer : ℕ → Bool
outer k = eqb k (ordinal (neg_ℤ (pos 3))) || eqb k (ordinal (pos 3))

unfoldable pub illegal : ℕ → Bool
illegal v = leb 16 v || outer (v / 4) || outer (v % 4)
