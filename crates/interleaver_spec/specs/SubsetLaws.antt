-- The subset of a block row, and where its bit rows stand in it, as the code counts them.
-- Assumes nothing.
use Rattle.std.specs.Prelude.{ℕ, ◌+◌, ◌*◌, ◌/◌, ◌%◌}
use Rattle.interleaver_spec.specs.declared.BlockRow.{BlockRow}
use Rattle.interleaver_spec.specs.declared.BitRow.{BitRow}
use Rattle.interleaver_spec.specs.declared.SubsetBitRow.{SubsetBitRow}

-- The subset of a block row; and bit row i of a block row, counted in the subset.
abbrev pub subset_in : BlockRow → ℕ
subset_in k = k.0 / 42 * 2 + k.0 % 2

abbrev pub bit_row_in : BlockRow → BitRow → SubsetBitRow
bit_row_in k i = record { 0 = k.0 % 42 / 2 * 16 + i.0 }
