-- The 84 block rows of a buffer as the calls hold them between reading and writing: the eight blocks of a block row side by side, word
-- i of block C being number 8i+C; outward, where each column takes one word from four block rows, those four side by side too.
-- Assumes nothing.
use Rattle.std.specs.Prelude.{List, [], ℕ, ◌+◌, ◌*◌, ◌/◌, ◌%◌, get_or}
use Rattle.bits.specs.Bits.{bit_of, bit, from_bits, byte_of}
use Rattle.bits.specs.Lists.{tabulate}
use Rattle.interleaver_spec.specs.declared.BlockRow.{BlockRow}
use Rattle.interleaver_spec.specs.declared.SubsetBitRow.{SubsetBitRow}
use Rattle.interleaver_spec.specs.Rows.{encoder_in, row_in, block_row_of, bit_row_within}
use Rattle.blocks.specs.Block.{block}
use Rattle.interleaver_spec.specs.Block.{reordered, restored}
use Rattle.blocks.specs.Moves.{transposed}
use Rattle.blocks.specs.SideBySide.{laid, words_block}
use Rattle.interleaver_spec.specs.Positions.{out_column, t_of, subset_of, b_of}
use Rattle.interleaver_spec.specs.PositionLaws.{output_at}
use Rattle.interleaver_spec.specs.Interleaving.{pairs_bit, pairs_of}

-- ---- from pairs to bits

-- The bit at (r, c) of block C of block row k in its encoder's pairs, and that block.
unfoldable pub pairs_place : List ℕ → BlockRow → ℕ → ℕ → ℕ → ℕ
pairs_place pairs k C r c = bit pairs (pairs_bit (row_in k) C r c)

abbrev pub pairs_block : List ℕ → BlockRow → ℕ → List ℕ
pairs_block pairs k C = block (pairs_place pairs k C)

-- Word x of block row k as two bytes of the pairs give it, the second of them the upper: bit row x/8 of block x mod 8, turned by 8
-- columns. And all 128, by the encoder.
unfoldable pub pairs_word : List ℕ → BlockRow → ℕ → ℕ
pairs_word pairs k x = from_bits 16 (λ c. pairs_place pairs k (x % 8) (x / 8) ((c + 8) % 16))

unfoldable pub pairs_words : List ℕ → BlockRow → List ℕ
pairs_words pairs k = tabulate 128 (pairs_word pairs k)

unfoldable pub sent_words : List ℕ → List ℕ → BlockRow → List ℕ
sent_words pairs0 pairs1 k = pairs_words (pairs_of pairs0 pairs1 (encoder_in k)) k

-- Block C of such words reordered, by columns.
unfoldable pub reordered_in : List ℕ → ℕ → List ℕ
reordered_in words C = transposed (reordered (words_block words C))

-- The block by its encoder; that block reordered, by columns; and block row number k of such blocks.
unfoldable pub sent_block : List ℕ → List ℕ → BlockRow → ℕ → List ℕ
sent_block pairs0 pairs1 k C = pairs_block (pairs_of pairs0 pairs1 (encoder_in k)) k C

unfoldable pub reordered_block : List ℕ → List ℕ → BlockRow → ℕ → List ℕ
reordered_block pairs0 pairs1 k C = transposed (reordered (sent_block pairs0 pairs1 k C))

unfoldable pub reordered_row : List ℕ → List ℕ → ℕ → List ℕ
reordered_row pairs0 pairs1 k = laid (reordered_block pairs0 pairs1 (record { 0 = k }))

-- Four block rows side by side: word x of row s is number 4x+s.
unfoldable pub joined_word : List (List ℕ) → ℕ → ℕ
joined_word rows i = get_or (get_or rows (i % 4) []) (i / 4) 0

unfoldable pub joined : List (List ℕ) → List ℕ
joined rows = tabulate 512 (joined_word rows)

-- The reordered block row of a subset in which bit rows 16x to 16x+15 of it stand, and those of the four subsets side by side.
unfoldable pub subset_row_at : List ℕ → List ℕ → ℕ → ℕ → List ℕ
subset_row_at pairs0 pairs1 x subset = reordered_row pairs0 pairs1 (block_row_of subset (record { 0 = 16 * x })).0

unfoldable pub joined_row : List ℕ → List ℕ → ℕ → List ℕ
joined_row pairs0 pairs1 x = joined (tabulate 4 (subset_row_at pairs0 pairs1 x))

-- Word x of the block row of a subset in which its bit row q stands, where all block rows are held so.
unfoldable pub subset_word : List (List ℕ) → ℕ → SubsetBitRow → ℕ → ℕ
subset_word rows subset q x = get_or (get_or rows (q.0 / 16) []) (4 * x + subset) 0

-- Output bit n by its four parts: bit row 8t+b of the subset, at a column.
unfoldable pub parts_bit : List (List ℕ) → ℕ → ℕ → ℕ → ℕ → ℕ
parts_bit rows column t subset b =
    let q : SubsetBitRow = record { 0 = 8 * t + b } in
    bit_of 16 (subset_word rows subset q (8 * (column % 16) + column / 16)) (bit_row_within q).0

unfoldable pub output_bit : List (List ℕ) → ℕ → ℕ
output_bit rows n = parts_bit rows (out_column n) (t_of n) (subset_of n) (b_of n)

-- Byte y of the output bits of a column, of which there are 1,344.
unfoldable pub column_byte : List (List ℕ) → ℕ → ℕ → ℕ
column_byte rows column y = byte_of (output_bit rows) (column * 168 + y)

-- ---- from bits to pairs

-- The bit at (i, j) of block C of block row k, and that block.
unfoldable pub line_place : List ℕ → BlockRow → ℕ → ℕ → ℕ → ℕ
line_place bits k C i j = bit bits (output_at k (record { 0 = i }) (16 * C + j))

abbrev pub line_block : List ℕ → BlockRow → ℕ → List ℕ
line_block bits k C = block (line_place bits k C)

-- The same by columns: the bit at bit row i of column j, and that block.
unfoldable pub line_column : List ℕ → BlockRow → ℕ → ℕ → ℕ → ℕ
line_column bits k C j i = line_place bits k C i j

abbrev pub line_columns : List ℕ → BlockRow → ℕ → List ℕ
line_columns bits k C = block (line_column bits k C)

-- The block restored, and block row number k of such blocks.
unfoldable pub restored_block : List ℕ → BlockRow → ℕ → List ℕ
restored_block bits k C = restored (line_block bits k C)

unfoldable pub restored_row : List ℕ → ℕ → List ℕ
restored_row bits k = laid (restored_block bits (record { 0 = k }))
