-- A block by whole rows: a row turned, columns chosen between two rows, a block whose bits were moved, and a block by columns.
-- Assumes nothing.
use Rattle.std.specs.Prelude.{List, ℕ, zero, suc, ◌+◌, ◌%◌, get_or}
use Rattle.bits.specs.Bits.{bit_of, from_bits}
use Rattle.bits.specs.Lists.{tabulate}
use Rattle.blocks.specs.Block.{bit_at, block}

-- Row x turned left by n columns.
unfoldable pub turned : ℕ → ℕ → ℕ
turned x n = from_bits 16 (λ c. bit_of 16 x ((c + n) % 16))

-- The second for 0, else the first.
unfoldable pub pick : ℕ → ℕ → ℕ → ℕ
pick zero u v = v
pick (suc t) u v = u

-- Row x in the columns of m, row y in the others.
unfoldable pub chosen : ℕ → ℕ → ℕ → ℕ
chosen m x y = from_bits 16 (λ c. pick (bit_of 16 m c) (bit_of 16 x c) (bit_of 16 y c))

-- n numbers of w bits whose bit c of number i is the bit of b at (row i c, column i c).
unfoldable pub moved_word : ℕ → (ℕ → ℕ → ℕ) → (ℕ → ℕ → ℕ) → List ℕ → ℕ → ℕ
moved_word w row column b i = from_bits w (λ c. bit_of w (get_or b (row i c) 0) (column i c))

unfoldable pub moved_in : ℕ → ℕ → (ℕ → ℕ → ℕ) → (ℕ → ℕ → ℕ) → List ℕ → List ℕ
moved_in n w row column b = tabulate n (moved_word w row column b)

-- The block that has at (i, c) the bit of b at (row i c, column i c).
unfoldable pub moved : (ℕ → ℕ → ℕ) → (ℕ → ℕ → ℕ) → List ℕ → List ℕ
moved row column b = block (λ i c. bit_at b (row i c) (column i c))

-- A block by columns: its row j is column j, bit row 0 first.
unfoldable pub transposed : List ℕ → List ℕ
transposed = moved (λ i c. c) (λ i c. i)
