-- What a buffer's bits are, and what its pairs are. 01, "Interleaver": "A buffer takes 21 pairs (10,752 bytes) of encoder 0 and
-- 21 of encoder 1 .. Output 21,504 bytes. Taking it apart is the inverse".
-- Assumes nothing.
use Rattle.std.specs.Prelude.{cond, List, ℕ, ◌+◌, ◌*◌, eqb}
use Rattle.bits.specs.Bits.{bit, pack}
use Rattle.bits.specs.Tests.{both}
use Rattle.bits.specs.Least.{least}
use Rattle.interleaver_spec.specs.Positions.{encoder_of, row_of, block_of, bit_row_of, column_of}

-- The bit (R, C, r, c) among an encoder's pairs. 01, "Rows and pairs": "coded 512 bytes: 256 a row, row 2P first, bit index
-- 128r+16C+c". The pairs stand one after the other, so row R begins at bit 2048R.
unfoldable pub pairs_bit : ℕ → ℕ → ℕ → ℕ → ℕ
pairs_bit R C r c = 2048 * R + 128 * r + 16 * C + c

-- Of the 21 pairs of either encoder, those of encoder e.
unfoldable pub pairs_of : List ℕ → List ℕ → ℕ → List ℕ
pairs_of pairs0 pairs1 e = cond (eqb e 0) pairs0 pairs1

-- Output bit n is this bit of its encoder's pairs.
unfoldable pub source_of : ℕ → ℕ
source_of n = pairs_bit (row_of n) (block_of n) (bit_row_of n) (column_of n)

unfoldable pub interleaved_bit : List ℕ → List ℕ → ℕ → ℕ
interleaved_bit pairs0 pairs1 n = bit (pairs_of pairs0 pairs1 (encoder_of n)) (source_of n)

unfoldable pub interleaved : List ℕ → List ℕ → List ℕ
interleaved pairs0 pairs1 = pack 21504 (interleaved_bit pairs0 pairs1)

-- "Taking it apart is the inverse": bit m of encoder e's pairs is the output bit that comes from there.
unfoldable pub output_of : ℕ → ℕ → ℕ
output_of e m = least 172032 (λ n. both (eqb (encoder_of n) e) (eqb (source_of n) m))

unfoldable pub apart : List ℕ → ℕ → List ℕ
apart bits e = pack 10752 (λ m. bit bits (output_of e m))
