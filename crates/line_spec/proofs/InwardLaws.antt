-- What comes in: over any legal frames every call is accepted, the received pairs hold the line's bits, and the code layer's promise
-- holds of every word that was taken.
-- Assumes nothing.
use Rattle.std.specs.Prelude.{◌≡◌, false, length}
use Rattle.std.proofs.Math.Path.{refl, sym, ap, ap₂}
use Rattle.std.proofs.Common.{◌∙◌, subst}
use mathlib.Core.List.{List, []}
use Prim.Native.Nat.{ℕ, ◌+◌, ◌-◌, ◌*◌, ◌/◌, ◌%◌, ◌<◌, ◌≤◌}
use native.Mathlib.Omega.{arith}
use Rattle.std.proofs.Math.ListN.{get_or}
use Rattle.std.proofs.lemmas.List.{length-map}
use Rattle.bits.specs.Lists.{tabulate}
use Rattle.bits.specs.ListLaws.{length_tabulate, get_d_tabulate}
use Rattle.bits.specs.Bits.{bit}
use Rattle.std.specs.Prelude.{Ok}
use Rattle.calls.specs.Answers.{refusal_of}
use Rattle.calls.specs.Sequences.{At, accepted}
use Rattle.calls.proofs.SequenceLaws.{At_lt, without_refused}
use Rattle.calls.specs.Calls.{After, after}
use Rattle.pair_spec.specs.Pairs.{pair_bit}
use Rattle.pair_spec.specs.Calls.{Encoding, Encodings, payloads, Receivings}
use Rattle.pair_spec.proofs.CallLaws.{receive_refused, receive_keeps}
use Rattle.pair_spec.proofs.StateLaws.{receivings_numbered}
use Rattle.pair_spec.specs.Promise.{Holds, Takes}
use Rattle.pair_spec.proofs.PromiseLaws.{promise}
use Rattle.interleaver_spec.specs.Interleaving.{pairs_bit, apart}
use Rattle.interleaver_spec.proofs.InterleavingLaws.{pairs_bit_lt, bit_apart}
use Rattle.interleaver_spec.specs.Calls.{Deinterleaved, after_deinterleave}
use Rattle.interleaver_spec.proofs.CallLaws.{part_done}
use Rattle.cells_spec.specs.Modulation.{Modulation, cells_per_buffer, buffers_in, pairs_in, rows_in}
use Rattle.cells_spec.specs.Cells.{payload_rule, Legal, to_bits}
use Rattle.cells_spec.proofs.CellLaws.{buffer_bits}
use Rattle.cells_spec.proofs.CallLaws.{demap_accepts}
use Rattle.frame_spec.specs.Frames.{payload_before, payload_start, own_overhead, unframed, differing, sub_frame_of, cell_of}
use Rattle.frame_spec.proofs.FrameLaws.{own_legal, unframed_at, payload_cell_legal}
use Rattle.frame_spec.proofs.PlaceLaws.{PayloadCellAt, located}
use Rattle.frame_spec.proofs.CallLaws.{unframe_accepts}
use Rattle.line_spec.specs.Sides.{Side, side0, side1, encoder}
use Rattle.line_spec.specs.Line.{output_position, line_byte, line_bit}
use Rattle.line_spec.specs.Outward.{Outward}
use Rattle.line_spec.specs.Inward.{ReceivedLine, unframing, received_byte, received_cells, demapping, parting, pairs_back, received_pair}
use Rattle.line_spec.specs.Inward.{Inward}
use Rattle.line_spec.specs.Demand3.{Comes}
use Rattle.line_spec.proofs.LineLaws.{encoder_small, cut_bit, OnLine, buffer_lt, cell_lt, line_bit_lem}

module _ (p : Modulation) (n : ℕ) (h : ReceivedLine p n) where
  -- ---- the calls, and the cells that they give

  pub unframing_is : (f : ℕ) → f < 48 * n
      → unframing p n h f ≡ after (Ok (differing (f % 48) (get_or h.frames f []) (own_overhead (f % 48) h.overhead))) (unframed (f % 48) (get_or h.frames f []))
  unfolding unframing
  unframing_is f lf =
      let l : f % 48 ≤ 47 = omega arith in
      unframe_accepts p (f % 48) h.overhead (get_or h.frames f []) (h.lent.payload f) l h.overhead_long (h.long f lf) (h.lent.payload_long f)
      (own_legal (f % 48) h.overhead l h.overhead_long h.overhead_legal) (h.legal f lf)

  -- Byte k of payload cell x of a super-frame is the line's.
  received_byte_lem : (q x k : ℕ) → q < n → x < 172032 → k < 2 → received_byte p n h q x k ≡ line_byte h.frames q x k
  unfolding received_byte line_byte
  received_byte_lem q x k lq lx lk =
      ap (λ (a : After (List ℕ)). get_or a.written ((x - payload_start s) * 2 + k) 0) (unframing_is (48 * q + s) (omega (arith, at.sub_frame_lem)))
      ∙ ap₂ (λ t y. get_or (unframed t (get_or h.frames (48 * q + s) [])) (y * 2 + k) 0) sub (place (payload_start s) (payload_before s m) at.index)
      ∙ unframed_at s (get_or h.frames (48 * q + s) []) m k at.inside lk at.payload
    where
      s : ℕ
      s = sub_frame_of x

      m : ℕ
      m = cell_of x

      at : PayloadCellAt x s m
      at = located x lx

      sub : (48 * q + s) % 48 ≡ s
      sub = omega (arith, at.sub_frame_lem)

      place : (a y : ℕ) → a + y ≡ x → x - a ≡ y
      place a y e = omega arith

  cells_length : (b : ℕ) → length (received_cells p n h b) ≡ cells_per_buffer p * 2
  unfolding received_cells
  cells_length b =
      length_tabulate (cells_per_buffer p * 2) (λ i. received_byte p n h (b / p.bits) (b % p.bits * cells_per_buffer p + i / 2) (i % 2))

  -- The cells of a buffer are those of the line.
  on_line : (b : ℕ) → b < buffers_in p n → OnLine p h.frames b (received_cells p n h b)
  unfolding received_cells
  on_line b lb =
      record {
        size = cells_length b;
        bytes = λ i li.
            get_d_tabulate (cells_per_buffer p * 2) (λ k. received_byte p n h (b / p.bits) (b % p.bits * cells_per_buffer p + k / 2) (k % 2)) i 0 li
            ∙ received_byte_lem (b / p.bits) (b % p.bits * cells_per_buffer p + i / 2) (i % 2) (buffer_lt p b n lb) (cell_lt p b (i / 2) (omega arith)) (omega arith);
      }

  -- Payload cells of legal frames are legal.
  line_legal : (q x k : ℕ) → q < n → x < 172032 → k < 2 → p.illegal (line_byte h.frames q x k) ≡ false
  unfolding line_byte
  line_legal q x k lq lx lk =
      let at = located x lx in
      let f = 48 * q + sub_frame_of x in
      let lf : 48 * q + sub_frame_of x < 48 * n = omega (arith, at.sub_frame_lem) in
      let sub : (48 * q + sub_frame_of x) % 48 ≡ sub_frame_of x = omega (arith, at.sub_frame_lem) in
      payload_cell_legal p (f % 48) (get_or h.frames f []) (h.long f lf) (h.legal f lf) (cell_of x) k at.inside lk (rw sub at.payload)

  cells_legal : (b : ℕ) → b < buffers_in p n → Legal (payload_rule p) (received_cells p n h b)
  unfolding payload_rule
  cells_legal b lb =
      record {
        legal = λ k l. let lk : k < cells_per_buffer p * 2 = omega (arith, cells_length b) in
            ap p.illegal ((on_line b lb).bytes k lk)
            ∙ line_legal (b / p.bits) (b % p.bits * cells_per_buffer p + k / 2) (k % 2) (buffer_lt p b n lb) (cell_lt p b (k / 2) (omega arith)) (omega arith);
      }

  demapping_is : (b : ℕ) → b < buffers_in p n → demapping p n h b ≡ after (Ok 0) (to_bits p (received_cells p n h b))
  unfolding demapping
  demapping_is b lb = demap_accepts p (received_cells p n h b) (h.lent.bits b) (cells_length b) (h.lent.bits_long b) (cells_legal b lb)

  bits_length : (b : ℕ) → b < buffers_in p n → length (demapping p n h b).written ≡ 21504
  bits_length b lb =
      ap (λ (a : After (List ℕ)). length a.written) (demapping_is b lb) ∙ buffer_bits p (received_cells p n h b) (cells_length b)

  parting_is : (b : ℕ) → b < buffers_in p n
      → parting p n h b ≡ after_deinterleave (Ok 0) (apart (demapping p n h b).written 0) (apart (demapping p n h b).written 1)
  unfolding parting
  parting_is b lb =
      sym
      (part_done (demapping p n h b).written (h.lent.pairs side0 b) (h.lent.pairs side1 b) _ _ (bits_length b lb)
      (h.lent.pairs_long side0 b) (h.lent.pairs_long side1 b) refl refl)

  pub pairs_is : (e : Side) (b : ℕ) → b < buffers_in p n → pairs_back p n h e b ≡ apart (to_bits p (received_cells p n h b)) (encoder e)
  unfolding pairs_back
  pairs_is side0 b lb =
      ap (λ (a : Deinterleaved). a.written.pairs0) (parting_is b lb) ∙ ap (λ (a : After (List ℕ)). apart a.written 0) (demapping_is b lb)
  pairs_is side1 b lb =
      ap (λ (a : Deinterleaved). a.written.pairs1) (parting_is b lb) ∙ ap (λ (a : After (List ℕ)). apart a.written 1) (demapping_is b lb)

  -- ---- what a received pair holds

  received_bit : (e : Side) (R C r c : ℕ) → R < rows_in p n → C < 8 → r < 16 → c < 16
      → pair_bit (received_pair p n h e (R / 2)) (R % 2) C r c ≡ line_bit p h.frames e R C r c
  unfolding received_pair output_position
  received_bit e R C r c lR lC lr lc =
      let lb : R / 42 < buffers_in p n = omega arith in
      let buffer : R / 2 / 21 ≡ R / 42 = omega arith in
      ap (λ b. pair_bit (tabulate 512 (λ i. get_or (pairs_back p n h e b) (512 * (R / 2 % 21) + i) 0)) (R % 2) C r c) buffer
      ∙ cut_bit R C r c lC lr lc (pairs_back p n h e (R / 42))
      ∙ ap (λ (s : List ℕ). bit s (pairs_bit (R % 42) C r c)) (pairs_is e (R / 42) lb)
      ∙ bit_apart (to_bits p (received_cells p n h (R / 42))) (encoder e) (pairs_bit (R % 42) C r c) (pairs_bit_lt (R % 42) C r c lC lr lc (omega arith))
      ∙ sym (line_bit_lem p h.frames e R C r c lC lr lc (received_cells p n h (R / 42)) (on_line (R / 42) lb))

  pub received_holds : (e : Side) (P : ℕ) → P < pairs_in p n → Holds (line_bit p h.frames e) P (received_pair p n h e P)
  received_holds e P l =
      record {
        holds = λ R C r c is lC lr lc.
            ap (λ Q. pair_bit (received_pair p n h e Q) (R % 2) C r c) (sym is) ∙ received_bit e R C r c (omega arith) lC lr lc;
      }

  pub length_received : (e : Side) (P : ℕ) → length (received_pair p n h e P) ≡ 512
  unfolding received_pair
  length_received e P = length_tabulate 512 (λ i. get_or (pairs_back p n h e (P / 21)) (512 * (P % 21) + i) 0)

-- ---- the receivers

pub length_payloads : (cs : List Encoding) → length (payloads cs) ≡ length (accepted Encodings cs)
unfolding payloads
length_payloads cs = length-map (accepted Encodings cs) (λ (c : Encoding). c.payload)

module _ (p : Modulation) (o : Outward p) (i : Inward p o) where
  pub takes : (e : Side) → Takes (line_bit p i.received.frames e) (i.calls e)
  takes e =
      record {
        takes = λ P c a.
            subst (λ q. Holds (line_bit p i.received.frames e) P q) (sym (i.in_order e P c a))
            (received_holds p o.superframes i.received e P (omega (arith, At_lt a, i.some e)));
      }

  pub enough : (e : Side) → length (accepted Receivings (i.calls e)) ≤ length (payloads (o.calls e))
  enough e = omega (arith, i.some e, o.filled e, length_payloads (o.calls e))

  pub comes : Comes p o i
  comes =
      record {
        unframed = λ f l. ap (λ (a : After (List ℕ)). refusal_of a.answer) (unframing_is p o.superframes i.received f l);
        demapped = λ b l. ap (λ (a : After (List ℕ)). refusal_of a.answer) (demapping_is p o.superframes i.received b l);
        parted = λ b l. ap (λ (a : Deinterleaved). refusal_of a.answer) (parting_is p o.superframes i.received b l);
        words = λ e P c a R r is lr.
            promise (o.sent e) (line_bit p i.received.frames e) (payloads (o.calls e)) (o.formulas e) (i.calls e) (encoder_small e) (i.runs e) (enough e) (takes e)
            (i.limit e) R r c lr (subst (λ Q. At (accepted Receivings (i.calls e)) Q c) (sym is) a);
        numbered = λ e. receivings_numbered (encoder e) (encoder_small e) (i.calls e) (i.runs e);
        states = λ e. without_refused Receivings receive_keeps (i.runs e);
        refused = λ e j c a. receive_refused c;
      }
