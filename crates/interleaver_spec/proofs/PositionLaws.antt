-- Laws of positions: the parts of an output bit, the output bit of a place, and each output bit from one bit of one encoder.
-- Assumes nothing.
use Rattle.std.specs.Prelude.{◌≡◌, ℕ, ◌+◌, ◌*◌, ◌/◌, ◌%◌, ◌<◌}
use Rattle.std.proofs.Math.Path.{refl, sym, ap, ap₂}
use Rattle.std.proofs.Common.{◌∙◌}
use native.Mathlib.Omega.{arith}
use Rattle.interleaver_spec.specs.declared.BlockRow.{BlockRow}
use Rattle.interleaver_spec.specs.declared.BitRow.{BitRow}
use Rattle.interleaver_spec.specs.declared.SubsetBitRow.{SubsetBitRow}
use Rattle.interleaver_spec.specs.Rows.{block_row, first_of}
use Rattle.interleaver_spec.specs.SubsetLaws.{subset_in, bit_row_in}
use Rattle.interleaver_spec.proofs.SubsetLaws.{first_of_is}
use Rattle.interleaver_spec.specs.Block.{source_row, source_column}
use Rattle.interleaver_spec.proofs.BlockLaws.{target_row, target_column, target_row_lt, target_column_lt, source_row_lt, source_column_lt}
use Rattle.interleaver_spec.proofs.BlockLaws.{source_target_row, source_target_column, target_source_row, target_source_column}
use Rattle.interleaver_spec.specs.Positions.{out_column, t_of, subset_of, b_of, out_bit_row, out_block_row, place_row, place_column, encoder_of}
use Rattle.interleaver_spec.specs.Positions.{row_of, block_of, bit_row_of, column_of}
use Rattle.interleaver_spec.specs.PositionLaws.{output_at}

-- ---- the parts of an output bit

-- "Output bit n = 1344×column + 32×t + 8×subset + b, column 0 to 127, t 0 to 41, b 0 to 7".
pub output_parts : (n : ℕ) → n ≡ 1344 * out_column n + 32 * t_of n + 8 * subset_of n + b_of n
output_parts n = omega arith

module _ (n A B D E : ℕ) (lB : B < 42) (lD : D < 4) (lE : E < 8) (is : n ≡ 1344 * A + 32 * B + 8 * D + E) where
  pub part_column : out_column n ≡ A
  part_column = omega arith

  pub part_t : t_of n ≡ B
  part_t = let k : n % 1344 ≡ 32 * B + (8 * D + E) = omega arith in rw k (omega arith)

  pub part_subset : subset_of n ≡ D
  part_subset = let k : n ≡ 32 * (42 * A + B) + (8 * D + E) = omega arith in let m : n % 32 ≡ 8 * D + E = omega arith in rw m (omega arith)

  pub part_b : b_of n ≡ E
  part_b = let k : n ≡ 8 * (168 * A + 4 * B + D) + E = omega arith in omega arith

-- The byte in which those of bit rows 0 to 7 are, as code finds it from the bit row of the subset; those of 8 to 15 are four bytes on.
pub output_begins : (k : BlockRow) (column : ℕ) (q : SubsetBitRow) (s : ℕ) → q ≡ bit_row_in k (record { 0 = 0 }) → s ≡ subset_in k
    → (168 * column + 4 * (q.0 / 8) + s) * 8 ≡ output_at k (record { 0 = 0 }) column
unfolding output_at
output_begins k column q s p e = rw (p, e) (omega arith)

module _ (k : BlockRow) (column at i : ℕ) (is : at * 8 ≡ output_at k (record { 0 = 0 }) column) (li : i < 8) where
  pub output_upper : output_at k (record { 0 = i }) column ≡ at * 8 + i
  unfolding output_at
  output_upper = place (k.0 % 42 / 2) (subset_in k) is
    where
      place : (x s : ℕ) → at * 8 ≡ 1344 * column + 32 * ((x * 16 + 0) / 8) + 8 * s + (x * 16 + 0) % 8
          → 1344 * column + 32 * ((x * 16 + i) / 8) + 8 * s + (x * 16 + i) % 8 ≡ at * 8 + i
      place x s e = omega arith

  pub output_lower : output_at k (record { 0 = 8 + i }) column ≡ (at + 4) * 8 + i
  unfolding output_at
  output_lower = place (k.0 % 42 / 2) (subset_in k) is
    where
      place : (x s : ℕ) → at * 8 ≡ 1344 * column + 32 * ((x * 16 + 0) / 8) + 8 * s + (x * 16 + 0) % 8
          → 1344 * column + 32 * ((x * 16 + (8 + i)) / 8) + 8 * s + (x * 16 + (8 + i)) % 8 ≡ (at + 4) * 8 + i
      place x s e = omega arith

first_in : (k : ℕ) → k < 84 → first_of (k / 42 * 2 + k % 2) ≡ k / 42 * 42 + k % 2
first_in k l =
    first_of_is (k / 42 * 2 + k % 2) (omega arith)
    ∙ (let h : (k / 42 * 2 + k % 2) / 2 ≡ k / 42 = omega arith in let m : (k / 42 * 2 + k % 2) % 2 ≡ k % 2 = omega arith in rw (h, m))

module _ (k : BlockRow) (i : BitRow) (column : ℕ) (lk : k.0 < 84) (li : i.0 < 16) where
  q_lt : (bit_row_in k i).0 / 8 < 42
  q_lt = omega arith

  at_is : output_at k i column ≡ 1344 * column + 32 * ((bit_row_in k i).0 / 8) + 8 * subset_in k + (bit_row_in k i).0 % 8
  unfolding output_at
  at_is = refl

  pub at_lt : column < 128 → output_at k i column < 172032
  unfolding output_at
  at_lt lc = omega (arith, q_lt)

  pub at_column : out_column (output_at k i column) ≡ column
  at_column = part_column (output_at k i column) column ((bit_row_in k i).0 / 8) (subset_in k) ((bit_row_in k i).0 % 8) q_lt (omega arith) (omega arith) at_is

  at_subset : subset_of (output_at k i column) ≡ subset_in k
  at_subset = part_subset (output_at k i column) column ((bit_row_in k i).0 / 8) (subset_in k) ((bit_row_in k i).0 % 8) q_lt (omega arith) (omega arith) at_is

  at_bit_row : (out_bit_row (output_at k i column)).0 ≡ (bit_row_in k i).0
  at_bit_row =
      ap₂ (λ x y. 8 * x + y)
      (part_t (output_at k i column) column ((bit_row_in k i).0 / 8) (subset_in k) ((bit_row_in k i).0 % 8) q_lt (omega arith) (omega arith) at_is)
      (part_b (output_at k i column) column ((bit_row_in k i).0 / 8) (subset_in k) ((bit_row_in k i).0 % 8) q_lt (omega arith) (omega arith) at_is)
      ∙ omega arith

  pub at_block_row : (out_block_row (output_at k i column)).0 ≡ k.0
  at_block_row =
      ap₂ (λ s q. first_of s + 2 * (q / 16)) at_subset at_bit_row
      ∙ omega (arith, first_in k.0 lk)

  pub at_place_row : (place_row (output_at k i column)).0 ≡ i.0
  at_place_row = ap (λ q. q % 16) at_bit_row ∙ omega arith

-- ---- each output bit stands at a column of a bit row

-- Block row number x of subset s.
module _ (k s x : ℕ) (ls : s < 4) (lx : x < 21) (e : k ≡ first_of s + 2 * x) where
  row_is : k ≡ s / 2 * 42 + s % 2 + 2 * x
  row_is = e ∙ ap (λ f. f + 2 * x) (first_of_is s ls)

  row_lt : k < 84
  row_lt = omega (arith, row_is)

  row_subset : k / 42 * 2 + k % 2 ≡ s
  row_subset =
      let h : k / 42 ≡ s / 2 = omega (arith, row_is) in
      let o : k % 2 ≡ s % 2 = omega (arith, row_is) in
      rw (h, o) (omega arith)

  row_number : k % 42 / 2 ≡ x
  row_number = let m : k % 42 ≡ s % 2 + 2 * x = omega (arith, row_is) in rw m (omega arith)

module _ (n : ℕ) (ln : n < 172032) where
  pub out_column_lt : out_column n < 128
  out_column_lt = omega arith

  subset_lt : subset_of n < 4
  subset_lt = omega arith

  number_lt : (out_bit_row n).0 / 16 < 21
  number_lt = omega arith

  pub out_block_row_lt : (out_block_row n).0 < 84
  out_block_row_lt = row_lt (out_block_row n).0 (subset_of n) ((out_bit_row n).0 / 16) subset_lt number_lt refl

  subset_back : subset_in (out_block_row n) ≡ subset_of n
  subset_back = row_subset (out_block_row n).0 (subset_of n) ((out_bit_row n).0 / 16) subset_lt number_lt refl

  bit_row_back : (bit_row_in (out_block_row n) (place_row n)).0 ≡ (out_bit_row n).0
  bit_row_back =
      ap (λ x. x * 16 + (out_bit_row n).0 % 16) (row_number (out_block_row n).0 (subset_of n) ((out_bit_row n).0 / 16) subset_lt number_lt refl)
      ∙ whole (out_bit_row n).0
    where
      whole : (q : ℕ) → q / 16 * 16 + q % 16 ≡ q
      whole q = omega arith

  pub at_out : output_at (out_block_row n) (place_row n) (out_column n) ≡ n
  unfolding output_at
  at_out =
      ap₂ (λ q s. 1344 * out_column n + 32 * (q / 8) + 8 * s + q % 8) bit_row_back subset_back
      ∙ ap₂ (λ h l. 1344 * out_column n + 32 * h + 8 * subset_of n + l) (high (t_of n) (b_of n) (omega arith)) (low (t_of n) (b_of n) (omega arith))
      ∙ sym (output_parts n)
    where
      high : (x y : ℕ) → y < 8 → (8 * x + y) / 8 ≡ x
      high x y l = omega arith

      low : (x y : ℕ) → y < 8 → (8 * x + y) % 8 ≡ y
      low x y l = omega arith

-- ---- the five functions and their inverse

-- The output bit that comes from bit (R, C, r, c) of encoder e.
unfoldable pub output_for : ℕ → ℕ → ℕ → ℕ → ℕ → ℕ
output_for e R C r c = output_at (block_row e R) (record { 0 = target_row r c }) (16 * C + target_column r c)

module _ (e R C r c : ℕ) (le : e < 2) (lR : R < 42) (lC : C < 8) (lr : r < 16) (lc : c < 16) where
  row_inside : (block_row e R).0 < 84
  row_inside = omega arith

  pub output_for_lt : output_for e R C r c < 172032
  unfolding output_for
  output_for_lt =
      at_lt (block_row e R) (record { 0 = target_row r c }) (16 * C + target_column r c) row_inside (target_row_lt r c)
      (omega (arith, target_column_lt r c))

  for_block_row : (out_block_row (output_for e R C r c)).0 ≡ 2 * R + e
  unfolding output_for
  for_block_row = at_block_row (block_row e R) (record { 0 = target_row r c }) (16 * C + target_column r c) row_inside (target_row_lt r c)

  for_column : out_column (output_for e R C r c) ≡ 16 * C + target_column r c
  unfolding output_for
  for_column = at_column (block_row e R) (record { 0 = target_row r c }) (16 * C + target_column r c) row_inside (target_row_lt r c)

  for_place_row : (place_row (output_for e R C r c)).0 ≡ target_row r c
  unfolding output_for
  for_place_row = at_place_row (block_row e R) (record { 0 = target_row r c }) (16 * C + target_column r c) row_inside (target_row_lt r c)

  for_place_column : place_column (output_for e R C r c) ≡ target_column r c
  for_place_column = ap (λ x. x % 16) for_column ∙ omega (arith, target_column_lt r c)

  pub encoder_for : encoder_of (output_for e R C r c) ≡ e
  unfolding encoder_of
  encoder_for = ap (λ x. x % 2) for_block_row ∙ omega arith

  pub row_for : row_of (output_for e R C r c) ≡ R
  unfolding row_of
  row_for = ap (λ x. x / 2) for_block_row ∙ omega arith

  pub block_for : block_of (output_for e R C r c) ≡ C
  unfolding block_of
  block_for = ap (λ x. x / 16) for_column ∙ omega (arith, target_column_lt r c)

  pub bit_row_for : bit_row_of (output_for e R C r c) ≡ r
  unfolding bit_row_of
  bit_row_for = ap₂ source_row for_place_row for_place_column ∙ source_target_row r c lr lc

  pub column_for : column_of (output_for e R C r c) ≡ c
  unfolding column_of
  column_for = ap₂ source_column for_place_row for_place_column ∙ source_target_column r c lr lc

module _ (n : ℕ) (ln : n < 172032) where
  pub encoder_of_lt : encoder_of n < 2
  unfolding encoder_of
  encoder_of_lt = last (out_block_row n).0
    where
      last : (x : ℕ) → x % 2 < 2
      last x = omega arith

  pub row_of_lt : row_of n < 42
  unfolding row_of
  row_of_lt = half (out_block_row n).0 (out_block_row_lt n ln)
    where
      half : (x : ℕ) → x < 84 → x / 2 < 42
      half x l = omega arith

  pub block_of_lt : block_of n < 8
  unfolding block_of
  block_of_lt = omega arith

  pub bit_row_of_lt : bit_row_of n < 16
  unfolding bit_row_of
  bit_row_of_lt = source_row_lt (place_row n).0 (place_column n)

  pub column_of_lt : column_of n < 16
  unfolding column_of
  column_of_lt = source_column_lt (place_row n).0 (place_column n)

  place_inside : (place_row n).0 < 16
  place_inside = last (out_bit_row n).0
    where
      last : (x : ℕ) → x % 16 < 16
      last x = omega arith

  column_inside : place_column n < 16
  column_inside = last (out_column n)
    where
      last : (x : ℕ) → x % 16 < 16
      last x = omega arith

  pub for_out : output_for (encoder_of n) (row_of n) (block_of n) (bit_row_of n) (column_of n) ≡ n
  unfolding output_for encoder_of row_of block_of bit_row_of column_of
  for_out =
      ap (λ x. output_at (record { 0 = x }) (record { 0 = target_row (bit_row_of n) (column_of n) }) (16 * (out_column n / 16) + target_column (bit_row_of n) (column_of n)))
      (pair (out_block_row n).0)
      ∙ ap₂ (λ x y. output_at (out_block_row n) (record { 0 = x }) (16 * (out_column n / 16) + y))
      (target_source_row (place_row n).0 (place_column n) place_inside column_inside)
      (target_source_column (place_row n).0 (place_column n) place_inside column_inside)
      ∙ ap (output_at (out_block_row n) (place_row n)) (whole (out_column n))
      ∙ at_out n ln
    where
      pair : (x : ℕ) → 2 * (x / 2) + x % 2 ≡ x
      pair x = omega arith

      whole : (x : ℕ) → 16 * (x / 16) + x % 16 ≡ x
      whole x = omega arith
