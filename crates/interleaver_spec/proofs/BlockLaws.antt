-- Laws of reordered blocks: the inverse of the reordering, each undoing the other.
-- Assumes nothing.
use Rattle.std.specs.Prelude.{◌≡◌, List, ℕ, ◌+◌, ◌-◌, ◌*◌, ◌/◌, ◌%◌, ◌<◌}
use Rattle.std.proofs.Common.{ap₂, ◌∙◌, arith}
use Rattle.bits.specs.Tests.{grid}
use Rattle.bits.specs.LeastLaws.{least_pair}
use Rattle.blocks.specs.Block.{bit_at}
use Rattle.blocks.specs.BlockLaws.{Block, bit_at_lt, bit_at_block_of, block_is, block_equal}
use Rattle.interleaver_spec.specs.Block.{row_shift, source_row, source_column, reordered_bit, reordered, place_from}
use Rattle.interleaver_spec.specs.Block.{restored_bit, restored}

-- ---- the inverse of the reordering

-- (r, c) goes to place (i, j), i = (c−r) mod 16 and j = (c+i+d) mod 16.
unfoldable pub target_row : ℕ → ℕ → ℕ
target_row r c = (c + 16 - r) % 16

unfoldable pub target_column : ℕ → ℕ → ℕ
target_column r c = (c + target_row r c + row_shift (target_row r c)) % 16

pub target_row_lt : (r c : ℕ) → target_row r c < 16
unfolding target_row
target_row_lt r c = omega arith

pub target_column_lt : (r c : ℕ) → target_column r c < 16
unfolding target_column
target_column_lt r c = omega arith

pub source_row_lt : (i j : ℕ) → source_row i j < 16
unfolding source_row
source_row_lt i j = omega arith

pub source_column_lt : (i j : ℕ) → source_column i j < 16
unfolding source_column
source_column_lt i j = omega arith

pub source_target_row : (r c : ℕ) → r < 16 → c < 16 → source_row (target_row r c) (target_column r c) ≡ r
unfolding row_shift source_row target_row target_column
source_target_row = grid 16 16 (λ r c. source_row (target_row r c) (target_column r c)) (λ r c. r) tt

pub source_target_column : (r c : ℕ) → r < 16 → c < 16 → source_column (target_row r c) (target_column r c) ≡ c
unfolding row_shift source_column target_row target_column
source_target_column = grid 16 16 (λ r c. source_column (target_row r c) (target_column r c)) (λ r c. c) tt

pub target_source_row : (i j : ℕ) → i < 16 → j < 16 → target_row (source_row i j) (source_column i j) ≡ i
unfolding row_shift source_row source_column target_row
target_source_row = grid 16 16 (λ i j. target_row (source_row i j) (source_column i j)) (λ i j. i) tt

pub target_source_column : (i j : ℕ) → i < 16 → j < 16 → target_column (source_row i j) (source_column i j) ≡ j
unfolding row_shift source_row source_column target_row target_column
target_source_column = grid 16 16 (λ i j. target_column (source_row i j) (source_column i j)) (λ i j. j) tt

-- The place that takes its bit from (r, c) is that one.
place_from_is : (r c : ℕ) → r < 16 → c < 16 → place_from r c ≡ 16 * target_row r c + target_column r c
unfolding place_from
place_from_is r c lr lc =
    least_pair 256 (λ x. source_row (x / 16) (x % 16)) (λ x. source_column (x / 16) (x % 16)) r c x
    (omega (arith, target_row_lt r c, target_column_lt r c))
    (rw (high, low) (source_target_row r c lr lc))
    (rw (high, low) (source_target_column r c lr lc))
    (λ y ly p q. omega (arith, ap₂ target_row p q, ap₂ target_column p q, target_source_row (y / 16) (y % 16) (omega arith) (omega arith), target_source_column (y / 16) (y % 16) (omega arith) (omega arith)))
  where
    x : ℕ
    x = 16 * target_row r c + target_column r c

    high : (16 * target_row r c + target_column r c) / 16 ≡ target_row r c
    high = omega (arith, target_column_lt r c)

    low : (16 * target_row r c + target_column r c) % 16 ≡ target_column r c
    low = omega (arith, target_column_lt r c)

pub place_from_row : (r c : ℕ) → r < 16 → c < 16 → place_from r c / 16 ≡ target_row r c
place_from_row r c lr lc = omega (arith, place_from_is r c lr lc, target_column_lt r c)

pub place_from_column : (r c : ℕ) → r < 16 → c < 16 → place_from r c % 16 ≡ target_column r c
place_from_column r c lr lc = omega (arith, place_from_is r c lr lc, target_column_lt r c)

-- ---- reordered and restored

pub bit_at_reordered : (b : List ℕ) (i j : ℕ) → i < 16 → j < 16 → bit_at (reordered b) i j ≡ bit_at b (source_row i j) (source_column i j)
unfolding reordered_bit
bit_at_reordered b = bit_at_block_of (reordered_bit b) (λ i j. bit_at_lt b (source_row i j) (source_column i j))

pub bit_at_restored : (b : List ℕ) (r c : ℕ) → r < 16 → c < 16 → bit_at (restored b) r c ≡ bit_at b (target_row r c) (target_column r c)
unfolding restored_bit
bit_at_restored b r c lr lc =
    bit_at_block_of (restored_bit b) (λ i j. bit_at_lt b (place_from i j / 16) (place_from i j % 16)) r c lr lc
    ∙ ap₂ (bit_at b) (place_from_row r c lr lc) (place_from_column r c lr lc)

-- A block that is reordered and restored is as it was, and the other way round.
pub restored_reordered : (b : List ℕ) → Block b → restored (reordered b) ≡ b
restored_reordered b h =
    block_equal (restored (reordered b)) b (block_is (restored_bit (reordered b))) h
    (λ r c lr lc.
    bit_at_restored (reordered b) r c lr lc
    ∙ bit_at_reordered b (target_row r c) (target_column r c) (target_row_lt r c) (target_column_lt r c)
    ∙ ap₂ (bit_at b) (source_target_row r c lr lc) (source_target_column r c lr lc))

pub reordered_restored : (b : List ℕ) → Block b → reordered (restored b) ≡ b
reordered_restored b h =
    block_equal (reordered (restored b)) b (block_is (reordered_bit (restored b))) h
    (λ i j li lj.
    bit_at_reordered (restored b) i j li lj
    ∙ bit_at_restored b (source_row i j) (source_column i j) (source_row_lt i j) (source_column_lt i j)
    ∙ ap₂ (bit_at b) (target_source_row i j li lj) (target_source_column i j li lj))
