-- The bench values of 01 for output bits: "n=1 is encoder 0, R=0, C=0, (14,15); n=16 is encoder 0, R=21, (0,0); n=32 is
-- (15,7); n=172031 is encoder 1, R=41, C=7, (0,15)."
-- Assumes nothing.
use Rattle.std.specs.Prelude.{◌≡◌, refl, ℕ}
use Rattle.interleaver_spec.specs.Rows.{first_of}
use Rattle.interleaver_spec.specs.Block.{row_shift, source_row, source_column}
use Rattle.interleaver_spec.specs.Positions.{encoder_of, row_of, block_of, bit_row_of, column_of}

-- Output bit n is bit (R, C, r, c) of encoder e.
pub record ComesFrom (n e R C r c : ℕ) : Type 0 where
  pub encoder : encoder_of n ≡ e
  pub row : row_of n ≡ R
  pub block : block_of n ≡ C
  pub bit_row_lem : bit_row_of n ≡ r
  pub column : column_of n ≡ c

pub output_bench_values : ComesFrom 1 0 0 0 14 15 × ComesFrom 16 0 21 0 0 0 × ComesFrom 32 0 0 0 15 7 × ComesFrom 172031 1 41 7 0 15
unfolding encoder_of row_of block_of bit_row_of column_of first_of row_shift source_row source_column
output_bench_values = (
  record { encoder = refl; row = refl; block = refl; bit_row_lem = refl; column = refl },
  record { encoder = refl; row = refl; block = refl; bit_row_lem = refl; column = refl },
  record { encoder = refl; row = refl; block = refl; bit_row_lem = refl; column = refl },
  record { encoder = refl; row = refl; block = refl; bit_row_lem = refl; column = refl },
)
