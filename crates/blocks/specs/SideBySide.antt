-- The eight blocks of a row side by side: word i of block C, its bit row i, is number 8i+C of 128.
-- Assumes nothing.
use Rattle.std.specs.Prelude.{cond, List, ℕ, ◌+◌, ◌-◌, ◌*◌, ◌/◌, ◌%◌, eqb, get_or}
use Rattle.bits.specs.Bits.{bit, bit_of, from_bits}
use Rattle.bits.specs.Lists.{tabulate}
use Rattle.blocks.specs.Moves.{turned}

-- Word x of the block row whose blocks f gives, and that block row.
unfoldable pub laid_word : (ℕ → List ℕ) → ℕ → ℕ
laid_word f x = get_or (f (x % 8)) (x / 8) 0

unfoldable pub laid : (ℕ → List ℕ) → List ℕ
laid f = tabulate 128 (laid_word f)

-- Word x of a block row into which block C was put, and that block row.
unfoldable pub laid_at : List ℕ → ℕ → List ℕ → ℕ → ℕ
laid_at row C b x = cond (eqb (x % 8) C) (get_or b (x / 8) 0) (get_or row x 0)

unfoldable pub laid_in : List ℕ → ℕ → List ℕ → List ℕ
laid_in row C b = tabulate 128 (laid_at row C b)

-- Bytes j and j+1 as they are read, the second the upper: its columns are turned by 8.
unfoldable pub read_word : List ℕ → ℕ → ℕ
read_word s j = from_bits 16 (λ c. bit s (8 * j + (c + 8) % 16))

-- Block C of a row, as it stands.
unfoldable pub row_block : List ℕ → ℕ → List ℕ
row_block row C = tabulate 16 (λ r. get_or row (8 * r + C) 0)

-- Block C of words whose bytes stand the other way round, which turning by 8 columns exchanges.
unfoldable pub words_block : List ℕ → ℕ → List ℕ
words_block words C = tabulate 16 (λ r. turned (get_or words (8 * r + C) 0) 8)

-- Byte y of a row, two bytes a word.
unfoldable pub row_byte : List ℕ → ℕ → ℕ
row_byte row y = from_bits 8 (λ c. bit_of 16 (get_or row (y / 2) 0) (8 * (y % 2) + c))

-- The same of words whose bytes stand the other way round.
unfoldable pub word_byte : List ℕ → ℕ → ℕ
word_byte row y = from_bits 8 (λ c. bit_of 16 (get_or row (y / 2) 0) (8 * (1 - y % 2) + c))
