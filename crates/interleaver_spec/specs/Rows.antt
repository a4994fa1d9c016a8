-- Rows of a buffer. 01, "Interleaver": a buffer "holds 84 block rows of 8 blocks .. A block row is not a bit row: each block
-- row has 16 bit rows, and a number of one never serves as the other."
-- Assumes nothing.
use Rattle.std.specs.Prelude.{cond, ℕ, ◌+◌, ◌*◌, ◌/◌, ◌%◌, eqb}
use Rattle.interleaver_spec.specs.declared.BlockRow.{BlockRow}
use Rattle.interleaver_spec.specs.declared.BitRow.{BitRow}
use Rattle.interleaver_spec.specs.declared.SubsetBitRow.{SubsetBitRow}

-- "Encoder e's row R, counted within the buffer, is block row 2R+e."
abbrev pub block_row : ℕ → ℕ → BlockRow
block_row e R = record { 0 = 2 * R + e }

-- So a block row is that of this encoder, and this row of it.
abbrev pub encoder_in : BlockRow → ℕ
encoder_in k = k.0 % 2

abbrev pub row_in : BlockRow → ℕ
row_in k = k.0 / 2

-- "Subset 0 is block rows 0, 2, .., 40; subset 1 is 1, 3, .., 41; subset 2 is 42, .., 82; subset 3 is 43, .., 83."
-- The first block row of a subset, from which every second one belongs to it; and its block row number x, 0 to 20.
unfoldable pub first_of : ℕ → ℕ
first_of subset = cond (eqb subset 0) 0 (cond (eqb subset 1) 1 (cond (eqb subset 2) 42 43))

abbrev pub subset_row : ℕ → ℕ → BlockRow
subset_row subset x = record { 0 = first_of subset + 2 * x }

-- "each block row has 16 bit rows": bit row q of a subset is in this block row, and there this bit row.
abbrev pub block_row_of : ℕ → SubsetBitRow → BlockRow
block_row_of subset q = subset_row subset (q.0 / 16)

abbrev pub bit_row_within : SubsetBitRow → BitRow
bit_row_within q = record { 0 = q.0 % 16 }
