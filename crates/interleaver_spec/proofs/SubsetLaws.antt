-- Laws of subsets: the subset of a block row, and where its bit rows stand in it.
-- Assumes nothing.
use Rattle.std.specs.Prelude.{◌≡◌, refl, ℕ, ◌+◌, ◌*◌, ◌/◌, ◌%◌, ◌<◌}
use Rattle.std.proofs.Common.{arith}
use Rattle.bits.specs.Tests.{agree}
use Rattle.interleaver_spec.specs.declared.BlockRow.{BlockRow}
use Rattle.interleaver_spec.specs.declared.SubsetBitRow.{SubsetBitRow}
use Rattle.interleaver_spec.specs.Rows.{block_row, encoder_in, row_in, first_of, subset_row, block_row_of}

-- ---- an encoder's row and its block row

pub block_row_in : (k : BlockRow) → block_row (encoder_in k) (row_in k) ≡ k
block_row_in k = let e : 2 * (k.0 / 2) + k.0 % 2 ≡ k.0 = omega arith in λ i. record { 0 = e i }

pub encoder_in_row : (e R : ℕ) → e < 2 → encoder_in (block_row e R) ≡ e
encoder_in_row e R l = omega arith

pub row_in_row : (e R : ℕ) → e < 2 → row_in (block_row e R) ≡ R
row_in_row e R l = omega arith

-- ---- a block row and its subset

-- Each subset has 21 block rows, the last being 40, 41, 82 and 83.
pub subset_ends : ((subset_row 0 20).0 ≡ 40) × ((subset_row 1 20).0 ≡ 41) × ((subset_row 2 20).0 ≡ 82) × ((subset_row 3 20).0 ≡ 83)
unfolding first_of
subset_ends = (refl, refl, refl, refl)

pub first_of_is : (s : ℕ) → s < 4 → first_of s ≡ s / 2 * 42 + s % 2
unfolding first_of
first_of_is = agree 4 first_of (λ s. s / 2 * 42 + s % 2) tt

-- The block row of a bit row of a subset, as code finds it.
pub row_of : (s : ℕ) (q : SubsetBitRow) → s < 4 → record { 0 = s / 2 * 42 + s % 2 + 2 * (q.0 / 16) } ≡ block_row_of s q
row_of s q l = rw (first_of_is s l)
