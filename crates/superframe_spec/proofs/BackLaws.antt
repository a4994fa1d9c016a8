-- The way back of demand 3's line: super-frame by super-frame, the step gives the pairs received and the sum of what the unframing calls
-- report; and receiving them, from fresh, gives what the receiving calls of demand 3 give.
-- Assumes nothing.
use Rattle.std.specs.Prelude.{◌≡◌, refl, List, [], length}
use Rattle.std.proofs.Math.Path.{sym, ap, ap₂}
use Rattle.std.proofs.Common.{◌∙◌, lit<}
use Prim.Native.Nat.{ℕ, suc, ◌+◌, ◌-◌, ◌*◌, ◌/◌, ◌%◌, ◌<◌}
use native.Mathlib.Omega.{arith}
use Rattle.std.proofs.Math.ListN.{get_or}
use Rattle.bits.specs.Count.{count}
use Rattle.bits.proofs.CountLaws.{count_ext}
use Rattle.bits.proofs.DigitLaws.{group_of, place_of, place_lt}
use Rattle.bits.specs.ListLaws.{length_tabulate, get_d_tabulate, is_tabulate}
use Rattle.bits.specs.Parts.{part_of, end_to_end}
use Rattle.bits.proofs.PartLaws.{part_of_length, part_of_at, end_to_end_length, end_to_end_at, part_end_to_end}
use Rattle.std.specs.Prelude.{Ok}
use Rattle.calls.specs.Answers.{value_or}
use Rattle.calls.specs.Sequences.{At, Run, accepted}
use Rattle.calls.specs.Calls.{After}
use Rattle.pair_spec.specs.Front.{history_of, fresh_history}
use Rattle.pair_spec.specs.Calls.{Receiving, receive, Receivings}
use Rattle.pair_spec.specs.Stream.{pair_receiver, history_at, payloads_of, marks_of, history_before}
use Rattle.pair_spec.proofs.StreamRunLaws.{stream_payload, stream_marks, stream_history}
use Rattle.interleaver_spec.specs.Interleaving.{apart}
use Rattle.interleaver_spec.specs.Calls.{after_deinterleave}
use Rattle.cells_spec.specs.Modulation.{Modulation, cells_per_buffer, buffers_in}
use Rattle.cells_spec.specs.Cells.{overhead_rule, Legal, to_bits}
use Rattle.cells_spec.proofs.ModulationLaws.{buffer_whole, cells_pos, width_pos}
use Rattle.cells_spec.proofs.CellLaws.{none_illegal}
use Rattle.frame_spec.specs.Frames.{payload_start, own_overhead, frame_rule, unframed, differing, sub_frame_of}
use Rattle.frame_spec.proofs.PlaceLaws.{located}
use Rattle.line_spec.specs.Sides.{Side, side0, side1, encoder}
use Rattle.line_spec.proofs.LineLaws.{encoder_small}
use Rattle.line_spec.specs.Outward.{Outward}
use Rattle.line_spec.specs.Inward as inward
use Rattle.line_spec.specs.Inward.{ReceivedLine, unframing, received_byte, pairs_back, received_pair, Inward}
use Rattle.line_spec.proofs.InwardLaws.{unframing_is, pairs_is, length_received}
use Rattle.superframe_spec.specs.Apart.{taken_byte, taken_cells, buffer_pairs, taken_pairs, differing_in, differing_all, line_rule}
use Rattle.superframe_spec.specs.Apart.{take_apart}
use Rattle.superframe_spec.proofs.ApartLaws.{taken_is, apart_done}
use Rattle.superframe_spec.proofs.LineLaws.{pairs_per_superframe}

module _ (p : Modulation) (n : ℕ) (h : ReceivedLine p n) where
  -- The frames of super-frame q, end to end, and the pairs received of an encoder.
  unfoldable pub received_line : ℕ → List ℕ
  received_line q = end_to_end 48 7424 (λ s. get_or h.frames (48 * q + s) [])

  unfoldable pub received_pairs : ℕ → Side → List ℕ
  received_pairs q e = end_to_end (pairs_per_superframe p) 512 (λ k. received_pair p n h e (pairs_per_superframe p * q + k))

  -- ---- frames to pairs

  module _ (q : ℕ) (lq : q < n) where
    frame_lt : (s : ℕ) → s < 48 → 48 * q + s < 48 * n
    frame_lt s ls = omega arith

    sub : (s : ℕ) → s < 48 → (48 * q + s) % 48 ≡ s
    sub s ls = omega arith

    frame_is : (s : ℕ) → s < 48 → part_of 7424 (received_line q) s ≡ get_or h.frames (48 * q + s) []
    unfolding received_line
    frame_is s ls = part_end_to_end 48 7424 (λ t. get_or h.frames (48 * q + t) []) s (lit< tt) ls (h.long (48 * q + s) (frame_lt s ls))

    line_long : length (received_line q) ≡ 356352
    unfolding received_line
    line_long = end_to_end_length 48 7424 (λ s. get_or h.frames (48 * q + s) [])

    line_legal : Legal (line_rule p) (received_line q)
    unfolding line_rule received_line
    line_legal =
        record {
          legal = λ k lk.
              let l : k < 356352 = omega (arith, line_long) in
              let s : k / 7424 < 48 = omega arith in
              let f = 48 * q + k / 7424 in
              ap (frame_rule p (k / 7424) (k % 7424)) (end_to_end_at 48 7424 (λ s. get_or h.frames (48 * q + s) []) k l)
              ∙ ap (λ t. frame_rule p t (k % 7424) (get_or (get_or h.frames f []) (k % 7424) 0)) (sym (sub (k / 7424) s))
              ∙ (h.legal f (frame_lt (k / 7424) s)).legal (k % 7424) (omega (arith, h.long f (frame_lt (k / 7424) s)));
        }

    -- What the unframing calls report.
    count_is : differing_all (received_line q) h.overhead ≡ count 48 (λ s. value_or (unframing p n h (48 * q + s)).answer 0)
    unfolding differing_all differing_in
    count_is =
        count_ext 48 (differing_in (received_line q) h.overhead) (λ s. value_or (unframing p n h (48 * q + s)).answer 0)
        (λ s ls.
        ap (λ f. differing s f (own_overhead s h.overhead)) (frame_is s ls)
        ∙ ap (λ t. differing t (get_or h.frames (48 * q + s) []) (own_overhead t h.overhead)) (sym (sub s ls))
        ∙ sym (ap (λ (a : After (List ℕ)). value_or a.answer 0) (unframing_is p n h (48 * q + s) (frame_lt s ls))))

    byte_is : (x k : ℕ) → x < 172032 → taken_byte (received_line q) x k ≡ received_byte p n h q x k
    unfolding taken_byte received_byte
    byte_is x k lx =
        let s = sub_frame_of x in
        let ls : s < 48 = (located x lx).sub_frame_lem in
        ap (λ f. get_or (unframed s f) ((x - payload_start s) * 2 + k) 0) (frame_is s ls)
        ∙ ap (λ t. get_or (unframed t (get_or h.frames (48 * q + s) [])) ((x - payload_start s) * 2 + k) 0) (sym (sub s ls))
        ∙ sym (ap (λ (a : After (List ℕ)). get_or a.written ((x - payload_start s) * 2 + k) 0) (unframing_is p n h (48 * q + s) (frame_lt s ls)))

    -- Buffer b of the super-frame is buffer q w + b of the line.
    buffer_of : (b : ℕ) → b < p.bits → (buffers_in p q + b) / p.bits ≡ q
    unfolding buffers_in
    buffer_of b lb = group_of p.bits (width_pos p) q b lb

    buffer_in : (b : ℕ) → b < p.bits → (buffers_in p q + b) % p.bits ≡ b
    unfolding buffers_in
    buffer_in b lb = place_of p.bits (width_pos p) q b lb

    cells_whole : length (taken_cells (received_line q)) ≡ p.bits * (cells_per_buffer p * 2)
    unfolding taken_cells
    cells_whole = length_tabulate 344064 (λ j. taken_byte (received_line q) (j / 2) (j % 2)) ∙ omega (arith, buffer_whole p)

    cells_are : (b : ℕ) → b < p.bits
        → part_of (cells_per_buffer p * 2) (taken_cells (received_line q)) b ≡ inward.received_cells p n h (buffers_in p q + b)
    unfolding inward.received_cells taken_cells
    cells_are b lb =
        is_tabulate 0 (part_of w2 cells b) w2 (λ i. received_byte p n h ((buffers_in p q + b) / p.bits) ((buffers_in p q + b) % p.bits * cells_per_buffer p + i / 2) (i % 2))
        (part_of_length w2 p.bits b lb cells cells_whole) at
      where
        w2 : ℕ
        w2 = cells_per_buffer p * 2

        cells : List ℕ
        cells = taken_cells (received_line q)

        at : (i : ℕ) → i < w2 → get_or (part_of w2 cells b) i 0
            ≡ received_byte p n h ((buffers_in p q + b) / p.bits) ((buffers_in p q + b) % p.bits * cells_per_buffer p + i / 2) (i % 2)
        at i li =
            let c : i / 2 < cells_per_buffer p = omega arith in
            let l : b * cells_per_buffer p + i / 2 < 172032 = omega (arith, place_lt (cells_per_buffer p) (cells_pos p) b (i / 2) p.bits lb c, buffer_whole p) in
            let j : b * (cells_per_buffer p * 2) + i ≡ (b * cells_per_buffer p + i / 2) * 2 + i % 2 = omega arith in
            let x : ((b * cells_per_buffer p + i / 2) * 2 + i % 2) / 2 ≡ b * cells_per_buffer p + i / 2 = omega arith in
            let k : ((b * cells_per_buffer p + i / 2) * 2 + i % 2) % 2 ≡ i % 2 = omega arith in
            part_of_at w2 p.bits b lb cells cells_whole i li
            ∙ ap (λ y. get_or cells y 0) j
            ∙ get_d_tabulate 344064 (λ y. taken_byte (received_line q) (y / 2) (y % 2)) ((b * cells_per_buffer p + i / 2) * 2 + i % 2) 0 (omega arith)
            ∙ ap₂ (taken_byte (received_line q)) x k
            ∙ byte_is (b * cells_per_buffer p + i / 2) (i % 2) l
            ∙ ap₂ (λ r t. received_byte p n h r (t * cells_per_buffer p + i / 2) (i % 2)) (sym (buffer_of b lb)) (sym (buffer_in b lb))

    buffer_lt : (b : ℕ) → b < p.bits → buffers_in p q + b < buffers_in p n
    unfolding buffers_in
    buffer_lt b lb = place_lt p.bits (width_pos p) q b n lq lb

    buffer_is : (e : Side) (b : ℕ) → b < p.bits
        → buffer_pairs p (taken_cells (received_line q)) (encoder e) b ≡ pairs_back p n h e (buffers_in p q + b)
    unfolding buffer_pairs
    buffer_is e b lb =
        ap (λ c. apart (to_bits p c) (encoder e)) (cells_are b lb) ∙ sym (pairs_is p n h e (buffers_in p q + b) (buffer_lt b lb))

    -- The pairs of the step are the pairs received.
    pairs_are : (e : Side) → taken_pairs p (taken_cells (received_line q)) (encoder e) ≡ received_pairs q e
    unfolding taken_pairs received_pairs end_to_end received_pair buffers_in
    pairs_are e =
        sym
        (is_tabulate 0 (end_to_end (pairs_per_superframe p) 512 (λ k. received_pair p n h e (pairs_per_superframe p * q + k))) (p.bits * 10752) _
        (end_to_end_length (pairs_per_superframe p) 512 (λ k. received_pair p n h e (pairs_per_superframe p * q + k)) ∙ omega arith) at)
      where
        at : (y : ℕ) → y < p.bits * 10752
            → get_or (end_to_end (pairs_per_superframe p) 512 (λ k. received_pair p n h e (pairs_per_superframe p * q + k))) y 0
            ≡ get_or (buffer_pairs p (taken_cells (received_line q)) (encoder e) (y / 10752)) (y % 10752) 0
        at y ly =
            let b = y / 10752 in
            let lb : y / 10752 < p.bits = omega arith in
            let ok : y < pairs_per_superframe p * 512 = omega arith in
            let which : (pairs_per_superframe p * q + y / 512) / 21 ≡ buffers_in p q + y / 10752 = omega arith in
            let place : 512 * ((pairs_per_superframe p * q + y / 512) % 21) + y % 512 ≡ y % 10752 = omega arith in
            end_to_end_at (pairs_per_superframe p) 512 (λ k. received_pair p n h e (pairs_per_superframe p * q + k)) y ok
            ∙ get_d_tabulate 512 (λ i. get_or (pairs_back p n h e ((pairs_per_superframe p * q + y / 512) / 21)) (512 * ((pairs_per_superframe p * q + y / 512) % 21) + i) 0) (y % 512) 0 (omega arith)
            ∙ ap₂ (λ c i. get_or (pairs_back p n h e c) i 0) which place
            ∙ ap (λ s. get_or s (y % 10752) 0) (sym (buffer_is e b lb))

    -- THE STEP over super-frame q: the pairs received, and the sum of what each unframing call reports, whatever the buffers were lent
    -- with.
    pub step_back : (pairs0 pairs1 : List ℕ) → take_apart p (received_line q) h.overhead pairs0 pairs1
        ≡ after_deinterleave (Ok (count 48 (λ s. value_or (unframing p n h (48 * q + s)).answer 0))) (received_pairs q side0) (received_pairs q side1)
    step_back pairs0 pairs1 =
        sym
        (apart_done p (received_line q) h.overhead pairs0 pairs1 _ refl (none_illegal overhead_rule h.overhead h.overhead_legal) _ refl
        (none_illegal (line_rule p) (received_line q) line_legal) _
        (taken_is p (received_line q) h.overhead _ _ _ _ (sym count_is) refl (sym (pairs_are side0)) (sym (pairs_are side1))))

  -- ---- pairs to payload and marks

  -- Pair k of super-frame q is pair pairs × q + k received.
  pair_of : (e : Side) (q k : ℕ) → q < n → k < pairs_per_superframe p
      → part_of 512 (received_pairs q e) k ≡ received_pair p n h e (pairs_per_superframe p * q + k)
  unfolding received_pairs
  pair_of e q k lq lk =
      part_end_to_end (pairs_per_superframe p) 512 (λ i. received_pair p n h e (pairs_per_superframe p * q + i)) k (lit< tt) lk (length_received p n h e (pairs_per_superframe p * q + k))

  -- A list of receiving calls from fresh, whose accepted calls take the pairs received in order: accepted call k of super-frame q gives
  -- pair k's part of what the stream gives for it, from fresh on super-frame by super-frame, and leaves the stream's history.
  module _ (e : Side) (cs : List Receiving) {t : List ℕ} (run : Run Receivings (fresh_history (encoder e)) cs t)
      (in_order : (P : ℕ) (c : Receiving) → At (accepted Receivings cs) P c → c.coded ≡ received_pair p n h e P)
      (q k : ℕ) (lq : q < n) (lk : k < pairs_per_superframe p) (c : Receiving) (a : At (accepted Receivings cs) (pairs_per_superframe p * q + k) c) where
    -- The pairs before super-frame q.
    abbrev before : List ℕ
    before = history_before pair_receiver (pairs_per_superframe p) (λ r. received_pairs r e) q

    pub call_payload : (receive c).written.payload ≡ part_of 444 (payloads_of (pairs_per_superframe p) before (pairs_per_superframe p * q) (received_pairs q e)) k
    call_payload =
        stream_payload cs (received_pair p n h e) in_order (encoder_small e) run (pairs_per_superframe p) n (λ r. received_pairs r e) (pair_of e) q k lq lk c a

    pub call_marks : (receive c).written.marks ≡ part_of 32 (marks_of (pairs_per_superframe p) before (pairs_per_superframe p * q) (received_pairs q e)) k
    call_marks =
        stream_marks cs (received_pair p n h e) in_order (encoder_small e) run (pairs_per_superframe p) n (λ r. received_pairs r e) (pair_of e) q k lq lk c a

    pub call_history : (receive c).written.history
        ≡ history_of (encoder e) (pairs_per_superframe p * q + suc k) (history_at pair_receiver before (pairs_per_superframe p * q) (part_of 512 (received_pairs q e)) (suc k))
    call_history =
        stream_history cs (received_pair p n h e) in_order (encoder_small e) run (pairs_per_superframe p) n (λ r. received_pairs r e) (pair_of e) q k lq lk c a

-- Demand 3's receivers are such lists.
module _ (p : Modulation) (o : Outward p) (i : Inward p o) (e : Side) (q k : ℕ) (lq : q < o.superframes) (lk : k < pairs_per_superframe p) (c : Receiving)
    (a : At (accepted Receivings (i.calls e)) (pairs_per_superframe p * q + k) c) where
  pub inward_payload : (receive c).written.payload
      ≡ part_of 444 (payloads_of (pairs_per_superframe p) (history_before pair_receiver (pairs_per_superframe p) (λ r. received_pairs p o.superframes i.received r e) q) (pairs_per_superframe p * q) (received_pairs p o.superframes i.received q e)) k
  inward_payload = call_payload p o.superframes i.received e (i.calls e) (i.runs e) (i.in_order e) q k lq lk c a

  pub inward_marks : (receive c).written.marks
      ≡ part_of 32 (marks_of (pairs_per_superframe p) (history_before pair_receiver (pairs_per_superframe p) (λ r. received_pairs p o.superframes i.received r e) q) (pairs_per_superframe p * q) (received_pairs p o.superframes i.received q e)) k
  inward_marks = call_marks p o.superframes i.received e (i.calls e) (i.runs e) (i.in_order e) q k lq lk c a
