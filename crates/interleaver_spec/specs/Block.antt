-- How a block is reordered. 01, "Interleaver": "Each block of 16 bit rows is reordered by itself".
-- Assumes nothing.
use Rattle.std.specs.Prelude.{cond, List, ℕ, ◌+◌, ◌-◌, ◌*◌, ◌/◌, ◌%◌, ltb, eqb}
use Rattle.bits.specs.Tests.{both}
use Rattle.bits.specs.Least.{least}
use Rattle.blocks.specs.Block.{bit_at, block}

-- "d = 0 for i < 8 and 1 otherwise"
unfoldable pub row_shift : ℕ → ℕ
row_shift i = cond (ltb i 8) 0 1

-- "place (i, j) takes its bit from ((j−2i−d) mod 16, (j−i−d) mod 16)". With 32 added, which is 0 mod 16, no difference of
-- numbers is cut off at 0.
unfoldable pub source_row : ℕ → ℕ → ℕ
source_row i j = (j + 32 - 2 * i - row_shift i) % 16

unfoldable pub source_column : ℕ → ℕ → ℕ
source_column i j = (j + 32 - i - row_shift i) % 16

-- The bit at (i, j) of a block that was reordered, and that block.
unfoldable pub reordered_bit : List ℕ → ℕ → ℕ → ℕ
reordered_bit b i j = bit_at b (source_row i j) (source_column i j)

abbrev pub reordered : List ℕ → List ℕ
reordered b = block (reordered_bit b)

-- The number 16i+j of the place (i, j) that takes its bit from (r, c).
unfoldable pub place_from : ℕ → ℕ → ℕ
place_from r c = least 256 (λ x. both (eqb (source_row (x / 16) (x % 16)) r) (eqb (source_column (x / 16) (x % 16)) c))

-- The bit at (r, c) of the block that was reordered to b, and that block.
unfoldable pub restored_bit : List ℕ → ℕ → ℕ → ℕ
restored_bit b r c = bit_at b (place_from r c / 16) (place_from r c % 16)

abbrev pub restored : List ℕ → List ℕ
restored b = block (restored_bit b)
