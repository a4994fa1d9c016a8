-- The steps in which a block is reordered by whole rows.
-- Assumes nothing.
use Rattle.std.specs.Prelude.{List, ℕ, ◌+◌, ◌*◌, ◌%◌}
use Rattle.bits.specs.Bits.{bit_of}
use Rattle.blocks.specs.Block.{bit_at}
use Rattle.blocks.specs.Moves.{pick}

-- The bit at (i, c) of a block whose rows were turned left by n times their number; and of one whose columns of m were moved up by
-- n rows, the first coming after the last.
unfoldable pub turned_bit : ℕ → List ℕ → ℕ → ℕ → ℕ
turned_bit n b i c = bit_at b i ((c + n * i % 16) % 16)

unfoldable pub moved_bit : ℕ → ℕ → List ℕ → ℕ → ℕ → ℕ
moved_bit n m b i c = bit_at b (pick (bit_of 16 m c) ((i + n) % 16) i) c
