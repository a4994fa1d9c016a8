-- Where each output bit comes from. 01, "Interleaver": "Output bit n = 1344×column + 32×t + 8×subset + b, column 0 to 127,
-- t 0 to 41, b 0 to 7, is bit row 8t+b of that subset."
-- Assumes nothing.
use Rattle.std.specs.Prelude.{ℕ, ◌+◌, ◌*◌, ◌/◌, ◌%◌}
use Rattle.interleaver_spec.specs.declared.BlockRow.{BlockRow}
use Rattle.interleaver_spec.specs.declared.BitRow.{BitRow}
use Rattle.interleaver_spec.specs.declared.SubsetBitRow.{SubsetBitRow}
use Rattle.interleaver_spec.specs.Rows.{encoder_in, row_in, block_row_of, bit_row_within}
use Rattle.interleaver_spec.specs.Block.{source_row, source_column}

-- The four parts of n.
abbrev pub out_column : ℕ → ℕ
out_column n = n / 1344

abbrev pub t_of : ℕ → ℕ
t_of n = n % 1344 / 32

abbrev pub subset_of : ℕ → ℕ
subset_of n = n % 32 / 8

abbrev pub b_of : ℕ → ℕ
b_of n = n % 8

-- "bit row 8t+b of that subset", and the block row in which it stands.
abbrev pub out_bit_row : ℕ → SubsetBitRow
out_bit_row n = record { 0 = 8 * t_of n + b_of n }

abbrev pub out_block_row : ℕ → BlockRow
out_block_row n = block_row_of (subset_of n) (out_bit_row n)

-- The place (i, j) of the reordered block. The 128 columns of a bit row are 16 of each of 8 blocks.
abbrev pub place_row : ℕ → BitRow
place_row n = bit_row_within (out_bit_row n)

abbrev pub place_column : ℕ → ℕ
place_column n = out_column n % 16

-- Output bit n is bit (R, C, r, c) of an encoder: the encoder, R, C, r and c.
unfoldable pub encoder_of : ℕ → ℕ
encoder_of n = encoder_in (out_block_row n)

unfoldable pub row_of : ℕ → ℕ
row_of n = row_in (out_block_row n)

unfoldable pub block_of : ℕ → ℕ
block_of n = out_column n / 16

unfoldable pub bit_row_of : ℕ → ℕ
bit_row_of n = source_row (place_row n).0 (place_column n)

unfoldable pub column_of : ℕ → ℕ
column_of n = source_column (place_row n).0 (place_column n)
