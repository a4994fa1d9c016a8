-- A block: a list of sixteen 16-bit rows, column 0 the most significant bit of a row. 01, "Rows and pairs": "bits V(R, C, r, c): block C 0
-- to 7, bit row r and column c 0 to 15."
-- Assumes nothing.
use Rattle.std.specs.Prelude.{List, ℕ, get_or}
use Rattle.bits.specs.Bits.{bit_of, from_bits}
use Rattle.bits.specs.Lists.{tabulate}

-- The bit of a block at place (i, j): bit row i, column j.
unfoldable pub bit_at : List ℕ → ℕ → ℕ → ℕ
bit_at b i j = bit_of 16 (get_or b i 0) j

-- Bit row i of the block whose bit at (i, j) is f i j, and that block.
unfoldable pub row_word : (ℕ → ℕ → ℕ) → ℕ → ℕ
row_word f i = from_bits 16 (f i)

unfoldable pub block : (ℕ → ℕ → ℕ) → List ℕ
block f = tabulate 16 (row_word f)
