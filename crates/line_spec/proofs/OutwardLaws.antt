-- What goes out: every call is accepted, and the frames hold every sent bit in its place.
-- Assumes nothing.
use Rattle.std.specs.Prelude.{◌≡◌, get_or}
use Rattle.std.proofs.Math.Path.{refl, sym, ap}
use Rattle.std.proofs.Common.{◌∙◌, subst}
use mathlib.Core.List.{List, []}
use Prim.Native.Nat.{ℕ, ◌+◌, ◌*◌, ◌/◌, ◌%◌, ◌<◌, ◌≤◌}
use native.Mathlib.Omega.{arith}
use Rattle.std.proofs.Math.ListN.{length}
use Rattle.bits.specs.ListLaws.{length_tabulate, get_d_tabulate}
use Rattle.std.specs.Prelude.{Ok}
use Rattle.calls.specs.Answers.{refusal_of}
use Rattle.calls.specs.Sequences.{At, accepted}
use Rattle.calls.proofs.SequenceLaws.{At_find, At_map, without_refused}
use Rattle.calls.specs.Calls.{After, after}
use Rattle.pair_spec.specs.Pairs.{pair_bit}
use Rattle.pair_spec.specs.Calls.{Encoding, encode, Encodings}
use Rattle.pair_spec.proofs.CallLaws.{encode_refused, encode_keeps}
use Rattle.pair_spec.proofs.StateLaws.{encodings_numbered}
use Rattle.pair_spec.proofs.PromiseLaws.{coded_sent}
use Rattle.interleaver_spec.specs.Interleaving.{interleaved}
use Rattle.interleaver_spec.proofs.InterleavingLaws.{length_interleaved}
use Rattle.interleaver_spec.proofs.CallLaws.{join_done}
use Rattle.cells_spec.specs.Modulation.{Modulation, cells_per_buffer, rows_in}
use Rattle.cells_spec.specs.Cells.{payload_rule, Legal, to_cells}
use Rattle.cells_spec.proofs.CellLaws.{to_cells_legal, buffer_cells_lem}
use Rattle.cells_spec.specs.Calls.{map_call}
use Rattle.cells_spec.proofs.CallLaws.{map_accepts}
use Rattle.frame_spec.specs.Frames.{own_overhead, framed, frame_rule}
use Rattle.frame_spec.proofs.FrameLaws.{own_legal}
use Rattle.frame_spec.proofs.CallLaws.{frame_accepts}
use Rattle.line_spec.specs.Sides.{Side, side0, side1, encoder}
use Rattle.line_spec.specs.Line.{line_bit}
use Rattle.line_spec.specs.Outward.{Outward, coded_pairs, pairs_of_buffer, interleaving, mapping, payload_byte, frame_payload, framing}
use Rattle.line_spec.specs.Outward.{frames}
use Rattle.line_spec.specs.Demand3.{Goes}
use Rattle.line_spec.proofs.LineLaws.{encoder_small, pairs_bit_lem, OnLine, line_pairs}
use Rattle.line_spec.proofs.FramedLine as line

-- The coded pair of an accepted call stands at its number.
pub coded_at : (cs : List Encoding) {P : ℕ} {c : Encoding} → At (accepted Encodings cs) P c
    → get_or (coded_pairs cs) P [] ≡ (encode c).written.coded
unfolding coded_pairs
coded_at cs a = At_map (λ (c : Encoding). (encode c).written.coded) [] a

length_pairs : (pairs : List (List ℕ)) (b : ℕ) → length (pairs_of_buffer pairs b) ≡ 10752
unfolding pairs_of_buffer
length_pairs pairs b = length_tabulate 10752 (λ i. get_or (get_or pairs (21 * b + i / 512) []) (i % 512) 0)

module _ (p : Modulation) (o : Outward p) where
  -- ---- the calls

  -- The pairs of buffer b, of either encoder, and the bits that they give.
  pairs : ℕ → Side → List ℕ
  pairs b e = pairs_of_buffer (coded_pairs (o.calls e)) b

  bits : ℕ → List ℕ
  bits b = interleaved (pairs b side0) (pairs b side1)

  interleaving_is : (b : ℕ) → interleaving p o b ≡ after (Ok 0) (bits b)
  unfolding interleaving pairs bits
  interleaving_is b =
      sym
      (join_done (pairs b side0) (pairs b side1) (o.lent.bits b) (bits b)
      (length_pairs (coded_pairs (o.calls side0)) b) (length_pairs (coded_pairs (o.calls side1)) b) (o.lent.bits_long b) refl)

  length_bits : (b : ℕ) → length (bits b) ≡ 21504
  unfolding bits
  length_bits b = length_interleaved (pairs b side0) (pairs b side1)

  mapping_is : (b : ℕ) → mapping p o b ≡ after (Ok 0) (to_cells p (bits b))
  unfolding mapping
  mapping_is b =
      ap (λ (a : After (List ℕ)). mapped a.written) (interleaving_is b)
      ∙ map_accepts p (bits b) (o.lent.cells b) (length_bits b) (o.lent.cells_long b)
    where
      mapped : List ℕ → After (List ℕ)
      mapped s = map_call p s (o.lent.cells b)

  cells_is : (b : ℕ) → (mapping p o b).written ≡ to_cells p (bits b)
  cells_is b = ap (λ (a : After (List ℕ)). a.written) (mapping_is b)

  pub cells_are : (b : ℕ)
      → (mapping p o b).written ≡ to_cells p (interleaved (pairs_of_buffer (coded_pairs (o.calls side0)) b) (pairs_of_buffer (coded_pairs (o.calls side1)) b))
  unfolding bits pairs
  cells_are b = cells_is b

  cells : ℕ → List ℕ
  cells b = (mapping p o b).written

  cells_long : (b : ℕ) → length (cells b) ≡ cells_per_buffer p * 2
  unfolding cells
  cells_long b = ap length (cells_is b) ∙ buffer_cells_lem p (bits b) (length_bits b)

  cells_legal : (b : ℕ) → Legal (payload_rule p) (cells b)
  unfolding cells
  cells_legal b = rw (cells_is b) (to_cells_legal p (bits b))

  -- The frames are those of these cells.
  payload_is : (f : ℕ) → frame_payload p o f ≡ line.frame_payload_of p cells f
  unfolding frame_payload payload_byte line.frame_payload_of line.payload_byte_of cells
  payload_is f = refl

  framing_is : (f : ℕ) → framing p o f ≡ after (Ok 0) (framed (f % 48) (frame_payload p o f) (own_overhead (f % 48) o.overhead))
  unfolding framing
  framing_is f =
      let l : f % 48 ≤ 47 = omega arith in
      frame_accepts p (f % 48) o.overhead (o.lent.frame f) (frame_payload p o f) l o.overhead_long (o.lent.frame_long f)
      (ap length (payload_is f) ∙ line.payload_length p cells f) (own_legal (f % 48) o.overhead l o.overhead_long o.overhead_legal)
      (rw (payload_is f) (line.frame_payload_legal p cells cells_long cells_legal f))

  pub frame_is : (f : ℕ) → f < 48 * o.superframes
      → get_or (frames p o) f [] ≡ framed (f % 48) (frame_payload p o f) (own_overhead (f % 48) o.overhead)
  unfolding frames
  frame_is f l =
      get_d_tabulate (48 * o.superframes) (λ k. (framing p o k).written) f [] l ∙ ap (λ (a : After (List ℕ)). a.written) (framing_is f)

  frame_of_cells : (f : ℕ) → f < 48 * o.superframes → get_or (frames p o) f [] ≡ line.frame_of p cells o.overhead f
  unfolding line.frame_of
  frame_of_cells f l = frame_is f l ∙ ap (λ (y : List ℕ). framed (f % 48) y (own_overhead (f % 48) o.overhead)) (payload_is f)

  -- ---- what the frames hold

  -- The line's bit is the coded pair's.
  line_coded : (e : Side) (R C r c : ℕ) → R < rows_in p o.superframes → C < 8 → r < 16 → c < 16
      → line_bit p (frames p o) e R C r c ≡ pair_bit (get_or (coded_pairs (o.calls e)) (R / 2) []) (R % 2) C r c
  unfolding bits pairs cells
  line_coded e R C r c lR lC lr lc =
      line_pairs p (frames p o) (pairs (R / 42)) e R C r c lC lr lc
      (subst (λ s. OnLine p (frames p o) (R / 42) s) (cells_is (R / 42))
      (line.on_line p cells cells_long o.superframes o.overhead (frames p o) frame_of_cells (R / 42) (omega arith)))
      ∙ pairs_bit_lem R C r c lC lr lc (coded_pairs (o.calls e))

  -- So it is the sent one.
  line_sent : (e : Side) (R C r c : ℕ) → R < rows_in p o.superframes → C < 8 → r < 16 → c < 16
      → line_bit p (frames p o) e R C r c ≡ o.sent e R C r c
  line_sent e R C r c lR lC lr lc =
      let f = At_find (accepted Encodings (o.calls e)) (R / 2) (omega (arith, o.filled e)) in
      line_coded e R C r c lR lC lr lc
      ∙ ap (λ (p : List ℕ). pair_bit p (R % 2) C r c) (coded_at (o.calls e) f.1)
      ∙ (coded_sent (o.calls e) (encoder_small e) (o.runs e) (o.sent e) (o.formulas e) (R / 2) f.0 f.1).holds R C r c refl lC lr lc

  -- ---- the frames are a line

  pub frames_many : length (frames p o) ≡ 48 * o.superframes
  unfolding frames
  frames_many = length_tabulate (48 * o.superframes) (λ f. (framing p o f).written)

  pub frames_long : (f : ℕ) → f < 48 * o.superframes → length (get_or (frames p o) f []) ≡ 7424
  frames_long = line.framed_length_at p cells cells_long o.superframes o.overhead (frames p o) frame_of_cells

  pub frames_legal : (f : ℕ) → f < 48 * o.superframes → Legal (frame_rule p (f % 48)) (get_or (frames p o) f [])
  frames_legal =
      line.framed_legal_at p cells cells_long o.superframes o.overhead (frames p o) frame_of_cells cells_legal o.overhead_long o.overhead_legal

  pub goes : Goes p o
  goes =
      record {
        interleaved = λ b l. ap (λ (a : After (List ℕ)). refusal_of a.answer) (interleaving_is b);
        mapped = λ b l. ap (λ (a : After (List ℕ)). refusal_of a.answer) (mapping_is b);
        framed = λ f l. ap (λ (a : After (List ℕ)). refusal_of a.answer) (framing_is f);
        holds = line_sent;
        numbered = λ e. encodings_numbered (encoder e) (encoder_small e) (o.calls e) (o.runs e);
        states = λ e. without_refused Encodings encode_keeps (o.runs e);
        refused = λ e i c a. encode_refused c;
      }
