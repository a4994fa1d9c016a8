-- Any bits of both encoders come off some legal line.
-- Assumes nothing.
use Rattle.std.specs.Prelude.{◌≡◌, ℕ, ◌+◌, ◌*◌, ◌/◌, ◌%◌, ◌<◌, length, get_or}
use Rattle.std.proofs.Common.{ap, ◌∙◌, arith}
use mathlib.Core.List.{List, []}
use Rattle.bits.specs.Lists.{tabulate}
use Rattle.bits.specs.ListLaws.{length_tabulate, get_d_tabulate}
use Rattle.bits.specs.Bits.{bit, pack}
use Rattle.bits.proofs.BitLaws.{bit_pack}
use Rattle.pair_spec.specs.Rows.{RowBits}
use Rattle.interleaver_spec.specs.Interleaving.{pairs_bit, interleaved}
use Rattle.interleaver_spec.proofs.InterleavingLaws.{pairs_bit_lt, pairs_bit_row, pairs_bit_bit_row, pairs_bit_block, pairs_bit_column}
use Rattle.interleaver_spec.proofs.InterleavingLaws.{length_interleaved}
use Rattle.cells_spec.specs.Modulation.{Modulation, cells_per_buffer, rows_in}
use Rattle.cells_spec.specs.Cells.{overhead_rule, payload_rule, Legal, to_cells}
use Rattle.cells_spec.proofs.CellLaws.{to_cells_legal, buffer_cells_lem}
use Rattle.line_spec.specs.Sides.{Side, side0, side1}
use Rattle.line_spec.specs.Line.{line_bit}
use Rattle.line_spec.specs.Inward.{LentIn, ReceivedLine}
use Rattle.line_spec.proofs.LineLaws.{line_pairs}
use Rattle.line_spec.proofs.FramedLine.{frame_of, framed_length_at, framed_legal_at, on_line}

-- The 21 pairs of buffer b that hold the bits W.
pairs_with : RowBits → ℕ → List ℕ
pairs_with W b = pack 10752 (λ m. W (42 * b + m / 2048) (m % 128 / 16) (m % 2048 / 128) (m % 16))

pairs_with_lem : (W : RowBits) (R C r c : ℕ) → C < 8 → r < 16 → c < 16 → W R C r c < 2
    → bit (pairs_with W (R / 42)) (pairs_bit (R % 42) C r c) ≡ W R C r c
unfolding pairs_with
pairs_with_lem W R C r c lC lr lc b =
    bit_pack 10752 (λ m. W (42 * (R / 42) + m / 2048) (m % 128 / 16) (m % 2048 / 128) (m % 16)) (pairs_bit (R % 42) C r c)
    (omega (arith, pairs_bit_lt (R % 42) C r c lC lr lc (omega arith)))
    ∙ rw (row_at, block_at, bit_row_at_lem, column_at_lem) (ap (λ Q. W Q C r c % 2) row ∙ omega (arith, b))
  where
    row_at : pairs_bit (R % 42) C r c / 2048 ≡ R % 42
    row_at = pairs_bit_row (R % 42) C r c lC lr lc

    block_at : pairs_bit (R % 42) C r c % 128 / 16 ≡ C
    block_at = pairs_bit_block (R % 42) C r c lC lr lc

    bit_row_at_lem : pairs_bit (R % 42) C r c % 2048 / 128 ≡ r
    bit_row_at_lem = pairs_bit_bit_row (R % 42) C r c lC lr lc

    column_at_lem : pairs_bit (R % 42) C r c % 16 ≡ c
    column_at_lem = pairs_bit_column (R % 42) C r c lC lr lc

    row : 42 * (R / 42) + R % 42 ≡ R
    row = omega arith

module _ (p : Modulation) (n : ℕ) (W : Side → RowBits) (overhead : List ℕ) (olong : length overhead ≡ 12288)
    (olegal : Legal overhead_rule overhead) where
  cells : ℕ → List ℕ
  cells b = to_cells p (interleaved (pairs_with (W side0) b) (pairs_with (W side1) b))

  cells_long : (b : ℕ) → length (cells b) ≡ cells_per_buffer p * 2
  unfolding cells
  cells_long b =
      buffer_cells_lem p (interleaved (pairs_with (W side0) b) (pairs_with (W side1) b))
      (length_interleaved (pairs_with (W side0) b) (pairs_with (W side1) b))

  cells_legal : (b : ℕ) → Legal (payload_rule p) (cells b)
  unfolding cells
  cells_legal b = to_cells_legal p (interleaved (pairs_with (W side0) b) (pairs_with (W side1) b))

  -- Every assignment of bits to both encoders comes off some legal line, whatever legal overhead list it is framed and unframed with.
  pub any_bits : ((e : Side) (R C r c : ℕ) → R < rows_in p n → C < 8 → r < 16 → c < 16 → W e R C r c < 2) → LentIn
      → (h : ReceivedLine p n) × ((e : Side) (R C r c : ℕ) → R < rows_in p n → C < 8 → r < 16 → c < 16
      → line_bit p h.frames e R C r c ≡ W e R C r c)
  unfolding cells
  any_bits b lent = (
    record {
      frames = line;
      many = length_tabulate (48 * n) (frame_of p cells overhead);
      long = framed_length_at p cells cells_long n overhead line is;
      legal = framed_legal_at p cells cells_long n overhead line is cells_legal olong olegal;
      overhead = overhead;
      overhead_long = olong;
      overhead_legal = olegal;
      lent = lent;
    },
    λ e R C r c lR lC lr lc.
        line_pairs p line (λ d. pairs_with (W d) (R / 42)) e R C r c lC lr lc
        (on_line p cells cells_long n overhead line is (R / 42) (omega arith))
        ∙ pairs_with_lem (W e) R C r c lC lr lc (b e R C r c lR lC lr lc),
  )
    where
      line : List (List ℕ)
      line = tabulate (48 * n) (frame_of p cells overhead)

      is : (f : ℕ) → f < 48 * n → get_or line f [] ≡ frame_of p cells overhead f
      is f l = get_d_tabulate (48 * n) (frame_of p cells overhead) f [] l
