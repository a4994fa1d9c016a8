-- QPSK as the code has it. 02, E1: "A byte holds two symbols, upper half first", so a byte of bits is four bytes of cells.
-- Assumes nothing.
use Rattle.std.specs.Prelude.{cond, List, eqb, get_or}
use Prim.Native.Nat.{ℕ, ◌+◌, ◌*◌, ◌/◌, ◌%◌}
use Rattle.cells_spec.specs.Qpsk.{cell_byte}
use Rattle.cells_spec.specs.QpskLaws.{symbol_of_cell}

-- The upper half of a byte, and the lower.
unfoldable pub half_of : ℕ → ℕ → ℕ
half_of b h = cond (eqb h 0) (b / 16) (b % 16)

-- ---- bits to cells

-- Byte k of the four bytes of cells of a byte, and byte j of the cells of a buffer of bits.
unfoldable pub quarter : ℕ → ℕ → ℕ
quarter b k = cell_byte (half_of b (k / 2)) (k % 2)

unfoldable pub cells_byte : List ℕ → ℕ → ℕ
cells_byte bits j = quarter (get_or bits (j / 4) 0) (j % 4)

-- ---- cells to bits

-- Byte i of the bits of a buffer of cells.
unfoldable pub byte_at : List ℕ → ℕ → ℕ
byte_at cells i =
    symbol_of_cell (get_or cells (i * 4) 0) (get_or cells (i * 4 + 1) 0) * 16 + symbol_of_cell (get_or cells (i * 4 + 2) 0) (get_or cells (i * 4 + 3) 0)
