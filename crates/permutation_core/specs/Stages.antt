-- The permutations of a block go in four stages of one shape: bit rows k and k+8 give bit rows 2k and 2k+1, which after four stages
-- brings each bit row home. What a stage does with the columns depends on a mask of columns.
-- Assumes nothing.
use Rattle.std.specs.Prelude.{List, ℕ, ◌+◌, ◌-◌, ◌*◌, ◌/◌, ◌%◌}
use Rattle.bits.specs.Bits.{bit_of, from_bits}
use Rattle.blocks.specs.Block.{bit_at}
use Rattle.blocks.specs.Moves.{pick, moved_word, moved_in}

-- The bit row that gives bit row i, and the one beside it in its stage.
unfoldable pub own : ℕ → ℕ
own i = pick (i % 2) (8 + i / 2) (i / 2)

unfoldable pub other : ℕ → ℕ
other i = pick (i % 2) (i / 2) (8 + i / 2)

-- Two bit rows exchange the columns of m.
unfoldable pub rows_stage : ℕ → List ℕ → ℕ → ℕ → ℕ
rows_stage m b i c = bit_at b (pick (bit_of 16 m c) (other i) (own i)) c

-- Of two bit rows the second exchanges the columns of m with those n before them.
unfoldable pub columns_column : ℕ → ℕ → ℕ → ℕ → ℕ
columns_column m n i c = pick (i % 2) (pick (bit_of 16 m c) (c - n) (c + n)) c

unfoldable pub columns_stage : ℕ → ℕ → List ℕ → ℕ → ℕ → ℕ
columns_stage m n b i c = bit_at b (own i) (columns_column m n i c)

-- Two numbers of w bits, x and y: the columns of m of the first change places with those n before them of the second.
unfoldable pub crossed_first : ℕ → ℕ → ℕ → ℕ → ℕ → ℕ
crossed_first w m n x y = from_bits w (λ c. pick (bit_of w m c) (bit_of w y (c - n)) (bit_of w x c))

unfoldable pub crossed_second : ℕ → ℕ → ℕ → ℕ → ℕ → ℕ
crossed_second w m n x y = from_bits w (λ c. pick (bit_of w m c) (bit_of w y c) (bit_of w x (c + n)))

-- A stage of 2R numbers of w bits: numbers k and R+k exchange columns so, and give numbers 2k and 2k+1.
unfoldable pub cross_row : ℕ → ℕ → ℕ → ℕ → ℕ → ℕ
cross_row R w m i c = pick (bit_of w m c) (R + i / 2) (i / 2)

unfoldable pub cross_column : ℕ → ℕ → ℕ → ℕ → ℕ → ℕ
cross_column w m n i c = pick (i % 2) (pick (bit_of w m c) c (c + n)) (pick (bit_of w m c) (c - n) c)

unfoldable pub cross_word : ℕ → ℕ → ℕ → ℕ → List ℕ → ℕ → ℕ
cross_word R w m n b = moved_word w (cross_row R w m) (cross_column w m n) b

unfoldable pub cross_stage : ℕ → ℕ → ℕ → ℕ → List ℕ → List ℕ
cross_stage R w m n b = moved_in (2 * R) w (cross_row R w m) (cross_column w m n) b

-- Eight blocks of 8 by 8 bits side by side in eight numbers of 64, bit row i of block B being byte B of number i: each by columns.
unfoldable pub eight_transposed : List ℕ → List ℕ
eight_transposed = moved_in 8 64 (λ i c. c % 8) (λ i c. c / 8 * 8 + i)

-- Two blocks of 16 by 16 bits side by side in sixteen numbers of 32, bit row i of block B being half B of number i: each by columns.
unfoldable pub two_transposed : List ℕ → List ℕ
two_transposed = moved_in 16 32 (λ i c. c % 16) (λ i c. c / 16 * 16 + i)
