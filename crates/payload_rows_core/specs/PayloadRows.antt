-- The back halves of a pair's words before their completion, as numbers of sixteen bits, their bytes exchanged.
-- Assumes nothing.
use Rattle.std.specs.Prelude.{List, ℕ, ◌+◌, ◌*◌, ◌/◌, ◌%◌}
use Rattle.bits.specs.Bits.{bit, from_bits}
use Rattle.blocks.specs.Moves.{turned}
use Rattle.pair_words_core.specs.WordBytes.{own_bit}

-- Number 8w+C: block C of the back half of word w as the payload has it, turned by eight columns, so that its two bytes are exchanged;
-- zeros behind the payload.
unfoldable pub open_number : List ℕ → ℕ → ℕ
open_number y n = from_bits 16 (λ c. own_bit y (n / 8) (128 + (16 * (n % 8) + (c + 8) % 16)))

-- Number 16C+r of row s by blocks: of block C of the row's word r.
unfoldable pub row_number : List ℕ → ℕ → ℕ → ℕ
row_number y s n = open_number y (8 * (16 * s + n % 16) + n / 16)

-- Fifteen bits of a buffer from bit i on and a zero behind them, turned by eight columns.
unfoldable pub fifteen_of : List ℕ → ℕ → ℕ
fifteen_of s i = turned (from_bits 15 (λ k. bit s (i + k)) * 2) 8

-- Block 6 of word w.
unfoldable pub last_number : List ℕ → ℕ → ℕ
last_number y w = open_number y (8 * w + 6)
