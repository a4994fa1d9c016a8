-- The frames of demand 3's line are super-frames made of the coded pairs of the accepted calls, and so of their
-- payloads, encoded from fresh.
-- Assumes nothing.
use Rattle.std.specs.Prelude.{◌≡◌, ℕ, ◌+◌, ◌*◌, ◌/◌, ◌%◌, ◌<◌, ◌≤◌}
use Rattle.std.proofs.Math.Path.{sym, ap, ap₂}
use Rattle.std.proofs.Common.{◌∙◌, suc-mul, mul-le-mul_right, lit<}
use mathlib.Core.List.{List, []}
use native.Mathlib.Omega.{arith}
use Rattle.std.proofs.Math.ListN.{length, get_or}
use Rattle.bits.proofs.DigitLaws.{digit_lt, digits, group_of, place_of, place_lt, group_lt}
use Rattle.bits.specs.ListLaws.{is_tabulate}
use Rattle.bits.specs.Parts.{part, part_of, end_to_end}
use Rattle.bits.proofs.PartLaws.{part_length, part_at, part_of_length, part_of_at, end_to_end_length, end_to_end_at, part_end_to_end}
use Rattle.pair_spec.specs.Calls.{payloads}
use Rattle.pair_spec.specs.Stream.{pair_encoder, coded_of, history_before}
use Rattle.pair_spec.proofs.StreamRunLaws.{stream_coded}
use Rattle.interleaver_spec.specs.Interleaving.{interleaved}
use Rattle.cells_spec.specs.Modulation.{Modulation, cells_per_buffer, buffers_in, pairs_in}
use Rattle.cells_spec.specs.Cells.{to_cells}
use Rattle.cells_spec.proofs.ModulationLaws.{buffer_whole, cells_pos}
use Rattle.frame_spec.specs.Frames.{payload_cells, payload_start, own_overhead, framed}
use Rattle.frame_spec.proofs.FrameLaws.{framed_length}
use Rattle.line_spec.specs.Sides.{Side, side0, side1}
use Rattle.line_spec.specs.Outward as outward
use Rattle.line_spec.specs.Outward.{Outward, coded_pairs, pairs_of_buffer, mapping, payload_byte, frame_payload}
use Rattle.line_spec.proofs.LineLaws.{encoder_small}
use Rattle.line_spec.proofs.OutwardLaws.{coded_at, cells_are, frame_is}
use Rattle.superframe_spec.specs.Superframe.{buffer_cells, payload_of_pairs, sub_frame, frames_end_to_end, superframe}
use Rattle.superframe_spec.proofs.SuperframeLaws.{payload_within}

-- The pairs of an encoder in a super-frame.
abbrev pub pairs_per_superframe : Modulation → ℕ
pairs_per_superframe p = pairs_in p 1

-- The coded pairs of super-frame q, end to end.
unfoldable pub coded_pairs_in : (p : Modulation) → Outward p → ℕ → Side → List ℕ
coded_pairs_in p o q e = end_to_end (pairs_per_superframe p) 512 (λ P. get_or (coded_pairs (o.calls e)) (pairs_per_superframe p * q + P) [])

-- Pair k of super-frame q of n.
pair_lt : (p : Modulation) (q k n : ℕ) → q < n → k < pairs_per_superframe p → pairs_per_superframe p * q + k < pairs_in p n
unfolding buffers_in
pair_lt p q k n lq lk = omega (arith, suc-mul q p.bits, mul-le-mul_right p.bits lq)

module _ (p : Modulation) (o : Outward p) (q : ℕ) where
  -- Those of a buffer.
  buffer_pairs_lem : (e : Side) (b : ℕ) → b < p.bits
      → part_of 10752 (coded_pairs_in p o q e) b ≡ pairs_of_buffer (coded_pairs (o.calls e)) (buffers_in p q + b)
  unfolding coded_pairs_in pairs_of_buffer buffers_in
  buffer_pairs_lem e b l =
      is_tabulate 0 _ 10752 (λ i. get_or (get_or coded (21 * (buffers_in p q + b) + i / 512) []) (i % 512) 0)
      (part_of_length 10752 p.bits b l (coded_pairs_in p o q e) whole)
      (λ i li. part_of_at 10752 p.bits b l (coded_pairs_in p o q e) whole i li
      ∙ end_to_end_at (pairs_per_superframe p) 512 (λ P. get_or coded (pairs_per_superframe p * q + P) []) (b * 10752 + i) (omega arith)
      ∙ ap₂ (λ P j. get_or (get_or coded P []) j 0) (which i) (place i))
    where
      coded : List (List ℕ)
      coded = coded_pairs (o.calls e)

      whole : length (coded_pairs_in p o q e) ≡ p.bits * 10752
      whole = omega (arith, end_to_end_length (pairs_per_superframe p) 512 (λ P. get_or coded (pairs_per_superframe p * q + P) []))

      which : (i : ℕ) → pairs_per_superframe p * q + (b * 10752 + i) / 512 ≡ 21 * (buffers_in p q + b) + i / 512
      which i = omega arith

      place : (i : ℕ) → (b * 10752 + i) % 512 ≡ i % 512
      place i = omega arith

  buffer_is : (b : ℕ) → b < p.bits
      → buffer_cells p (coded_pairs_in p o q side0) (coded_pairs_in p o q side1) b ≡ (mapping p o (buffers_in p q + b)).written
  unfolding buffer_cells
  buffer_is b l =
      ap₂ (λ x y. to_cells p (interleaved x y)) (buffer_pairs_lem side0 b l) (buffer_pairs_lem side1 b l) ∙ sym (cells_are p o (buffers_in p q + b))

  cells : List ℕ
  cells = payload_of_pairs p (coded_pairs_in p o q side0) (coded_pairs_in p o q side1)

  -- Byte h of payload cell x.
  cell_is : (x h : ℕ) → x < 172032 → h < 2 → get_or cells (x * 2 + h) 0 ≡ payload_byte p o q x h
  unfolding payload_of_pairs payload_byte cells
  cell_is x h lx lh =
      ap (λ y. get_or cells y 0) split
      ∙ end_to_end_at p.bits (cells_per_buffer p * 2) (buffer_cells p (coded_pairs_in p o q side0) (coded_pairs_in p o q side1)) _
      (place_lt (cells_per_buffer p * 2) size (x / cells_per_buffer p) (x % cells_per_buffer p * 2 + h) p.bits lb li)
      ∙ ap₂ (λ b i. get_or (buffer_cells p (coded_pairs_in p o q side0) (coded_pairs_in p o q side1) b) i 0) (group_of (cells_per_buffer p * 2) size (x / cells_per_buffer p) _ li)
      (place_of (cells_per_buffer p * 2) size (x / cells_per_buffer p) _ li)
      ∙ ap (λ (s : List ℕ). get_or s (x % cells_per_buffer p * 2 + h) 0) (buffer_is (x / cells_per_buffer p) lb)
    where
      size : 0 < cells_per_buffer p * 2
      size = omega (arith, cells_pos p)

      lb : x / cells_per_buffer p < p.bits
      lb = group_lt (cells_per_buffer p) (cells_pos p) x p.bits (omega (arith, buffer_whole p))

      li : x % cells_per_buffer p * 2 + h < cells_per_buffer p * 2
      li = omega (arith, digit_lt (cells_per_buffer p) (cells_pos p) x)

      split : x * 2 + h ≡ x / cells_per_buffer p * (cells_per_buffer p * 2) + (x % cells_per_buffer p * 2 + h)
      split = omega (arith, digits (cells_per_buffer p) (cells_pos p) x)

  payload_is : (s f : ℕ) → s < 48 → f / 48 ≡ q → f % 48 ≡ s → part (payload_start s * 2) (payload_cells s * 2) cells ≡ frame_payload p o f
  unfolding frame_payload payload_of_pairs cells
  payload_is s f l eq es =
      rw (es, eq)
      (is_tabulate 0 (part (payload_start s * 2) (payload_cells s * 2) cells) (payload_cells s * 2) (λ i. payload_byte p o q (payload_start s + i / 2) (i % 2))
      (part_length (payload_start s * 2) (payload_cells s * 2) cells within)
      (λ i li. let split : payload_start s * 2 + i ≡ (payload_start s + i / 2) * 2 + i % 2 = omega arith in
      part_at (payload_start s * 2) (payload_cells s * 2) cells within i li
      ∙ ap (λ y. get_or cells y 0) split
      ∙ cell_is (payload_start s + i / 2) (i % 2) (omega (arith, payload_within s l)) (omega arith)))
    where
      within : payload_start s * 2 + payload_cells s * 2 ≤ length cells
      within =
          omega (arith, payload_within s l, buffer_whole p, end_to_end_length p.bits (cells_per_buffer p * 2) (buffer_cells p (coded_pairs_in p o q side0) (coded_pairs_in p o q side1)))

  -- Sub-frame s of the super-frame is frame 48×q + s of the line.
  pub line_of_superframes : (s : ℕ) → q < o.superframes → s < 48
      → part_of 7424 (superframe p (coded_pairs_in p o q side0) (coded_pairs_in p o q side1) o.overhead) s ≡ get_or (outward.frames p o) (48 * q + s) []
  unfolding superframe frames_end_to_end sub_frame cells
  line_of_superframes s lq l =
      part_end_to_end 48 7424 (sub_frame cells o.overhead) s (lit< tt) l (framed_length s (part (payload_start s * 2) (payload_cells s * 2) cells) (own_overhead s o.overhead))
      ∙ ap₂ (λ t y. framed t y (own_overhead t o.overhead)) (sym sub) (payload_is s (48 * q + s) l super sub)
      ∙ sym (frame_is p o (48 * q + s) (omega arith))
    where
      sub : (48 * q + s) % 48 ≡ s
      sub = omega arith

      super : (48 * q + s) / 48 ≡ q
      super = omega arith

-- ---- from the payloads

-- S gives the payload of each super-frame of each encoder, its pairs of 444 bytes.
module _ (p : Modulation) (o : Outward p) (S : Side → ℕ → List ℕ)
    (given : (e : Side) (q k : ℕ) → q < o.superframes → k < pairs_per_superframe p → get_or (payloads (o.calls e)) (pairs_per_superframe p * q + k) [] ≡ part_of 444 (S e q) k) where
  -- The coded pairs of super-frame q, from its payload: the stream of pairs that is encoded from fresh.
  abbrev pub coded_in : ℕ → Side → List ℕ
  coded_in q e = coded_of (pairs_per_superframe p) (history_before pair_encoder (pairs_per_superframe p) (S e) q) (pairs_per_superframe p * q) (S e q)

  -- They are those of the accepted calls,
  pairs_are : (e : Side) (q : ℕ) → q < o.superframes → coded_in q e ≡ coded_pairs_in p o q e
  unfolding coded_pairs_in
  pairs_are e =
      stream_coded (o.calls e) (encoder_small e) (o.runs e) (pairs_per_superframe p) o.superframes (S e)
      (λ q k lq lk. omega (arith, o.filled e, pair_lt p q k o.superframes lq lk)) (given e) (λ P. get_or (coded_pairs (o.calls e)) P [])
      (λ P c a. coded_at (o.calls e) a)

  -- and the super-frame made of these payloads is the line's.
  pub line_of_payloads : (q s : ℕ) → q < o.superframes → s < 48
      → part_of 7424 (superframe p (coded_in q side0) (coded_in q side1) o.overhead) s ≡ get_or (outward.frames p o) (48 * q + s) []
  line_of_payloads q s lq ls =
      ap₂ (λ x y. part_of 7424 (superframe p x y o.overhead) s) (pairs_are side0 q lq) (pairs_are side1 q lq) ∙ line_of_superframes p o q s lq ls
