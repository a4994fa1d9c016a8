-- Laws of the line's places: the output bit and payload cell of each bit, pairs cut out of a buffer's pairs, and the bits of a line by
-- the cells of its buffers.
-- Assumes nothing.
use Rattle.std.specs.Prelude.{◌≡◌, refl, List, [], length}
use Rattle.std.proofs.Math.Path.{sym, ap, ap₂}
use Rattle.std.proofs.Common.{◌∙◌}
use Prim.Native.Nat.{ℕ, ◌+◌, ◌*◌, ◌/◌, ◌%◌, ◌^◌, ◌<◌}
use native.Mathlib.Omega.{arith}
use Rattle.std.proofs.Math.ListN.{get_or}
use Rattle.bits.specs.Lists.{tabulate}
use Rattle.bits.specs.ListLaws.{get_d_tabulate}
use Rattle.bits.specs.Bits.{bit_of, bit}
use Rattle.bits.proofs.DigitLaws.{digit_lt, digits, group_of, place_of, place_lt, group_lt}
use Rattle.pair_spec.specs.Pairs.{pair_index, pair_bit}
use Rattle.interleaver_spec.specs.Interleaving.{pairs_bit, pairs_of, interleaved}
use Rattle.interleaver_spec.proofs.PositionLaws.{output_for}
use Rattle.interleaver_spec.proofs.InterleavingLaws.{pairs_bit_lt, output_of_lt, output_for_lem, length_interleaved, interleaved_below}
use Rattle.interleaver_spec.proofs.InterleavingLaws.{bit_interleaved_for}
use Rattle.cells_spec.specs.Modulation.{Modulation, symbol_of, cells_per_buffer, buffers_in}
use Rattle.cells_spec.specs.Cells.{to_cells, to_bits}
use Rattle.cells_spec.proofs.ModulationLaws.{width_pos, buffer_whole, cells_pos}
use Rattle.cells_spec.proofs.CellLaws.{to_bits_bit, buffer_bits, buffer_back}
use Rattle.line_spec.specs.Sides.{Side, side0, side1, encoder}
use Rattle.line_spec.specs.Line.{output_position, payload_cell_of, line_byte, line_bit}
use Rattle.line_spec.specs.Outward.{pairs_of_buffer}

-- A bit by its byte and its place there.
pub part_bit : (s t : List ℕ) (i j : ℕ) → get_or s (i / 8) 0 ≡ get_or t (j / 8) 0 → i % 8 ≡ j % 8 → bit s i ≡ bit t j
unfolding bit
part_bit s t i j g e = ap₂ (bit_of 8) g e

-- ---- the places of a bit

pub encoder_lt : (e : Side) → encoder e < 2
encoder_lt side0 = omega arith
encoder_lt side1 = omega arith

pub encoder_small : (e : Side) → encoder e < 2 ^ 32
encoder_small e = omega (arith, encoder_lt e)

-- Of what either encoder has, that of encoder e.
pub pairs_of_side : (f : Side → List ℕ) (e : Side) → pairs_of (f side0) (f side1) (encoder e) ≡ f e
unfolding pairs_of
pairs_of_side f side0 = refl
pairs_of_side f side1 = refl

module _ (e : Side) (R C r c : ℕ) (lC : C < 8) (lr : r < 16) (lc : c < 16) where
  row_lt : R % 42 < 42
  row_lt = omega arith

  pub output_bit_lt : output_position e R C r c < 172032
  unfolding output_position
  output_bit_lt = output_of_lt (encoder e) (pairs_bit (R % 42) C r c) (encoder_lt e) (pairs_bit_lt (R % 42) C r c lC lr lc row_lt)

  pub output_bit_for : output_position e R C r c ≡ output_for (encoder e) (R % 42) C r c
  unfolding output_position
  output_bit_for = output_for_lem (encoder e) (R % 42) C r c (encoder_lt e) row_lt lC lr lc

-- ---- a pair among the pairs of a buffer

-- Bit M of pair number p.
module _ (p M : ℕ) (lM : M < 4096) where
  eighth : (4096 * p + M) / 8 ≡ 512 * p + M / 8
  eighth = omega arith

  pair_of_bit : (4096 * p + M) / 8 / 512 ≡ p
  pair_of_bit = rw eighth (omega arith)

  byte_in_pair : (4096 * p + M) / 8 % 512 ≡ M / 8
  byte_in_pair = rw eighth (let d : M / 8 < 512 = omega arith in omega arith)

  bit_in_byte : (4096 * p + M) % 8 ≡ M % 8
  bit_in_byte = omega arith

module _ (R C r c : ℕ) (lC : C < 8) (lr : r < 16) (lc : c < 16) where
  pair_index_lt : pair_index (R % 2) C r c < 4096
  unfolding pair_index
  pair_index_lt = omega arith

  -- Row R of an encoder is in pair R div 2, and that is number R div 2 mod 21 of its buffer.
  pub pairs_bit_buffer : pairs_bit (R % 42) C r c ≡ 4096 * (R / 2 % 21) + pair_index (R % 2) C r c
  unfolding pairs_bit pair_index
  pairs_bit_buffer = let e : R % 42 ≡ 2 * (R / 2 % 21) + R % 2 = omega arith in omega arith

  -- The pairs of a buffer hold the bits of each pair.
  pub pairs_bit_lem : (pairs : List (List ℕ))
      → bit (pairs_of_buffer pairs (R / 42)) (pairs_bit (R % 42) C r c) ≡ pair_bit (get_or pairs (R / 2) []) (R % 2) C r c
  unfolding pair_bit pairs_of_buffer
  pairs_bit_lem pairs =
      ap (bit (pairs_of_buffer pairs (R / 42))) pairs_bit_buffer
      ∙ part_bit (pairs_of_buffer pairs (R / 42)) (get_or pairs (R / 2) []) N M
      (get_d_tabulate 10752 (λ i. get_or (get_or pairs (21 * (R / 42) + i / 512) []) (i % 512) 0) (N / 8) 0 (omega (arith, pair_index_lt))
      ∙ ap₂ (λ P i. get_or (get_or pairs P []) i 0) (ap (λ p. 21 * (R / 42) + p) (pair_of_bit (R / 2 % 21) M pair_index_lt) ∙ omega arith)
      (byte_in_pair (R / 2 % 21) M pair_index_lt))
      (bit_in_byte (R / 2 % 21) M pair_index_lt)
    where
      M : ℕ
      M = pair_index (R % 2) C r c

      N : ℕ
      N = 4096 * (R / 2 % 21) + M

  -- And a pair cut out of them holds its own.
  pub cut_bit : (s : List ℕ)
      → pair_bit (tabulate 512 (λ i. get_or s (512 * (R / 2 % 21) + i) 0)) (R % 2) C r c ≡ bit s (pairs_bit (R % 42) C r c)
  unfolding pair_bit
  cut_bit s =
      part_bit (tabulate 512 (λ i. get_or s (512 * (R / 2 % 21) + i) 0)) s M (4096 * (R / 2 % 21) + M)
      (get_d_tabulate 512 (λ i. get_or s (512 * (R / 2 % 21) + i) 0) (M / 8) 0 (omega (arith, pair_index_lt))
      ∙ ap (λ i. get_or s i 0) (sym (eighth (R / 2 % 21) M pair_index_lt)))
      (sym (bit_in_byte (R / 2 % 21) M pair_index_lt))
      ∙ ap (bit s) (sym pairs_bit_buffer)
    where
      M : ℕ
      M = pair_index (R % 2) C r c

-- ---- the bits of a line by the cells of its buffers

module _ (p : Modulation) where
  -- The cells of buffer b, as they lie on a line.
  pub record OnLine (frames : List (List ℕ)) (b : ℕ) (cells : List ℕ) : Type 0 where
    pub size : length cells ≡ cells_per_buffer p * 2
    pub bytes : (i : ℕ) → i < cells_per_buffer p * 2
        → get_or cells i 0 ≡ line_byte frames (b / p.bits) (b % p.bits * cells_per_buffer p + i / 2) (i % 2)

  -- The super-frame of a buffer.
  pub buffer_lt : (b n : ℕ) → b < buffers_in p n → b / p.bits < n
  unfolding buffers_in
  buffer_lt b n l = group_lt p.bits (width_pos p) b n l

  -- Cell c of buffer b among the cells of its super-frame.
  module _ (b c : ℕ) (lc : c < cells_per_buffer p) where
    pub cell_lt : b % p.bits * cells_per_buffer p + c < 172032
    cell_lt = omega (arith, place_lt (cells_per_buffer p) (cells_pos p) (b % p.bits) c p.bits (digit_lt p.bits (width_pos p) b) lc, buffer_whole p)

    pub cell_buffer : buffers_in p (b / p.bits) + (b % p.bits * cells_per_buffer p + c) / cells_per_buffer p ≡ b
    unfolding buffers_in
    cell_buffer = omega (arith, group_of (cells_per_buffer p) (cells_pos p) (b % p.bits) c lc, digits p.bits (width_pos p) b)

    pub cell_place : (b % p.bits * cells_per_buffer p + c) % cells_per_buffer p ≡ c
    cell_place = place_of (cells_per_buffer p) (cells_pos p) (b % p.bits) c lc

  -- The line's bit is that of the buffer's cells made bits.
  pub line_bit_lem : (frames : List (List ℕ)) (e : Side) (R C r c : ℕ) → C < 8 → r < 16 → c < 16 → (cells : List ℕ)
      → OnLine frames (R / 42) cells
      → line_bit p frames e R C r c ≡ bit (to_bits p cells) (output_position e R C r c)
  unfolding line_bit payload_cell_of
  line_bit_lem frames e R C r c lC lr lc cells on =
      sym
      (to_bits_bit p cells n (omega (arith, ln, buffer_bits p cells on.size))
      ∙ ap₂ (λ x y. bit_of p.bits (symbol_of p x y) (n % p.bits)) (half 0 (k * 2) (omega arith) (omega arith)) (half 1 (k * 2 + 1) (omega arith) (omega arith)))
    where
      n : ℕ
      n = output_position e R C r c

      k : ℕ
      k = n / p.bits

      ln : n < 172032
      ln = output_bit_lt e R C r c lC lr lc

      lk : k < cells_per_buffer p
      lk = group_lt p.bits (width_pos p) n (cells_per_buffer p) (omega (arith, ln, buffer_whole p))

      half : (h i : ℕ) → h < 2 → i ≡ k * 2 + h
          → get_or cells i 0 ≡ line_byte frames (R / 42 / p.bits) (R / 42 % p.bits * cells_per_buffer p + k) h
      half h i lh is =
          let d : i / 2 ≡ k = omega arith in
          let m : i % 2 ≡ h = omega arith in
          on.bytes i (omega (arith, lk)) ∙ ap₂ (λ x b. line_byte frames (R / 42 / p.bits) (R / 42 % p.bits * cells_per_buffer p + x) b) d m

  -- Where the cells of its buffer are those of pairs, it is their bit.
  pub line_pairs : (frames : List (List ℕ)) (pairs : Side → List ℕ) (e : Side) (R C r c : ℕ) → C < 8 → r < 16 → c < 16
      → OnLine frames (R / 42) (to_cells p (interleaved (pairs side0) (pairs side1)))
      → line_bit p frames e R C r c ≡ bit (pairs e) (pairs_bit (R % 42) C r c)
  line_pairs frames pairs e R C r c lC lr lc on =
      let bits = interleaved (pairs side0) (pairs side1) in
      line_bit_lem frames e R C r c lC lr lc (to_cells p bits) on
      ∙ ap₂ bit (buffer_back p bits (length_interleaved (pairs side0) (pairs side1)) (interleaved_below (pairs side0) (pairs side1)))
      (output_bit_for e R C r c lC lr lc)
      ∙ bit_interleaved_for (encoder e) (R % 42) C r c (encoder_lt e) (omega arith) lC lr lc (pairs side0) (pairs side1)
      ∙ ap (λ (s : List ℕ). bit s (pairs_bit (R % 42) C r c)) (pairs_of_side pairs e)
