-- The output bit at a column of a bit row, as the code counts it; that it is so is a law (proofs/PositionLaws.antt).
-- Assumes nothing.
use Rattle.std.specs.Prelude.{ℕ, ◌+◌, ◌*◌, ◌/◌, ◌%◌}
use Rattle.interleaver_spec.specs.declared.BlockRow.{BlockRow}
use Rattle.interleaver_spec.specs.declared.BitRow.{BitRow}
use Rattle.interleaver_spec.specs.SubsetLaws.{subset_in, bit_row_in}

-- ---- the output bit at a column of a bit row

-- Of bit row i of a block row.
unfoldable pub output_at : BlockRow → BitRow → ℕ → ℕ
output_at k i column = 1344 * column + 32 * ((bit_row_in k i).0 / 8) + 8 * subset_in k + (bit_row_in k i).0 % 8
