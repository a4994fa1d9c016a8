-- Laws of the calls: their tests, what an accepted call gives, what a refused one leaves, and each undoing the other.
-- Assumes nothing.
use Rattle.std.specs.Prelude.{◌≡◌, false, ◌≢◌, ℕ, ◌+◌, ◌*◌, ◌<◌, ◌≤◌, get_or}
use Rattle.std.proofs.Math.Path.{refl}
use Rattle.std.proofs.Common.{ap, ap₂, sym, ◌∙◌}
use mathlib.Core.List.{List, [], ◌∷◌}
use native.Mathlib.Omega.{arith}
use borrow.Author.Tests.{eq-eqb, ne_eqb, lt-ltb, le-ltb, eqb-true, not-false}
use Rattle.std.proofs.Math.ListN.{length}
use Rattle.calls.specs.Answers.{Answer}
use Rattle.std.specs.Prelude.{Ok, Err}
use Rattle.calls.specs.declared.Refusal.TheVariants.{Misfit, OffGrid}
use Rattle.calls.specs.Answers.{TurnedBack}
use Rattle.calls.specs.Calls.{after, Test, verdict}
use Rattle.calls.proofs.CallLaws.{test_refuses, test_passes, is_off_grid, on_grid, none_left, tests, first_passed, call_done, Passed}
use Rattle.calls.proofs.CallLaws.{passed_all, told, call_keeps}
use Rattle.cells_spec.specs.Modulation.{Modulation}
use Rattle.cells_spec.specs.Cells.{overhead_rule, payload_rule, first_illegal, Legal}
use Rattle.cells_spec.proofs.CellLaws.{none_illegal}
use Rattle.cells_spec.proofs.CallLaws.{is_legal}
use Rattle.frame_spec.specs.Frames.{is_overhead, payload_cells, overhead_start, own_overhead, framed, frame_rule, unframed, differing}
use Rattle.frame_spec.proofs.FrameLaws.{own_legal, framed_length, framed_legal, own_length, unframed_framed, unframed_length}
use Rattle.frame_spec.proofs.FrameLaws.{differing_framed, unframed_legal, framed_unframed, overhead_never_payload}
use Rattle.frame_spec.specs.Calls.{payload_fits, payload_misfit, overhead_index, overhead_illegal, sub_frame_tests, frame_call, unframe_call}

-- ---- the tests

-- The payload: not measured, of another length, of its length n * 2.
module _ (number : ℕ) (payload : List ℕ) (ts : List Test) where
  pub payload_unmeasured : (a : Answer) → 47 < number → a ≡ verdict ts → a ≡ verdict (payload_misfit number payload ∷ ts)
  unfolding payload_misfit payload_fits
  payload_unmeasured a h = test_passes (payload_misfit number payload) ts a (simp (lt-ltb _ _ h))

  module _ (n : ℕ) (e : n ≡ payload_cells number) (l : number ≤ 47) where
    pub payload_misfit_lem : length payload ≢ n * 2 → Err Misfit ≡ verdict (payload_misfit number payload ∷ ts)
    unfolding payload_misfit payload_fits
    payload_misfit_lem h =
        let h' : length payload ≢ payload_cells number * 2 = λ p. h (p ∙ omega arith) in
        test_refuses (payload_misfit number payload) ts (simp (le-ltb _ _ l, ne_eqb _ _ h'))

    pub payload_measured : (a : Answer) → length payload ≡ n * 2 → a ≡ verdict ts → a ≡ verdict (payload_misfit number payload ∷ ts)
    unfolding payload_misfit payload_fits
    payload_measured a h =
        let h' : length payload ≡ payload_cells number * 2 = h ∙ omega arith in
        test_passes (payload_misfit number payload) ts a (simp (le-ltb _ _ l, eq-eqb _ _ h'))

-- The sub-frame's cells of the overhead list.
module _ (number : ℕ) (overhead own : List ℕ) (eo : own ≡ own_overhead number overhead) (at : ℕ) (ea : at ≡ first_illegal overhead_rule own) (ts : List Test) where
  pub overhead_illegal_lem : (start : ℕ) → start ≡ overhead_start number → at < length own
      → Err (OffGrid (start * 2 + at)) ≡ verdict (overhead_illegal number overhead ∷ ts)
  unfolding overhead_illegal overhead_index
  overhead_illegal_lem start es h = is_off_grid ts _ _ _ (start * 2 + at) (rw (es, ea, eo)) (rw (ea, eo) at h)

  pub overhead_legal : (a : Answer) → length own ≤ at → a ≡ verdict ts → a ≡ verdict (overhead_illegal number overhead ∷ ts)
  unfolding overhead_illegal
  overhead_legal a h = on_grid ts _ _ _ a (rw (ea, eo) at h)

pub ruleset sub_frame_tests_lem = (payload_unmeasured, payload_misfit_lem, payload_measured, overhead_illegal_lem, overhead_legal)

-- ---- where the first tests pass, with answer a

pub payload_told : (number : ℕ) (payload : List ℕ) → number ≤ 47 → (payload_misfit number payload).refuses ≡ false
    → length payload ≡ payload_cells number * 2
unfolding payload_misfit payload_fits
payload_told number payload l e = eqb-true _ _ (not-false _ (simp (le-ltb 47 number l) at e))

module _ (number : ℕ) (overhead frame payload : List ℕ) (a : Answer) (v : ℕ) (is : a ≡ verdict (sub_frame_tests number overhead frame payload)) (ea : a ≡ Ok v) where
  passed : Passed (sub_frame_tests number overhead frame payload)
  passed = passed_all (sub_frame_tests number overhead frame payload) v (sym is ∙ ea)

  pub judged_fits : number ≤ 47
  unfolding sub_frame_tests
  judged_fits = let p = passed in search (told, p)

  pub judged_overhead : length overhead ≡ 12288
  unfolding sub_frame_tests
  judged_overhead = let p = passed in search (told, p)

  pub judged_frame : length frame ≡ 7424
  unfolding sub_frame_tests
  judged_frame = let p = passed in search (told, p)

  pub judged_payload : length payload ≡ payload_cells number * 2
  unfolding sub_frame_tests
  judged_payload = let p = passed in search (told, payload_told, p)

pub ruleset judging = (judged_fits, judged_overhead, judged_frame, judged_payload)

module _ (p : Modulation) (number v : ℕ) (a : Answer) (ea : a ≡ Ok v) (overhead frame payload own : List ℕ) (eo : own ≡ own_overhead number overhead)
    (is : a ≡ verdict (sub_frame_tests number overhead frame payload)) (to : ℕ) where
  pub frame_done : to ≡ first_illegal (payload_rule p) payload → length payload ≤ to → (d : List ℕ) → d ≡ framed number payload own
      → after (Ok 0) d ≡ frame_call p number payload overhead frame
  frame_done et h d e =
      call_done _ _ _ _ (first_passed _ _ a is v _ ea (is_legal (payload_rule p) payload to et _ _ h none_left)) (ap (after (Ok 0)) (e ∙ ap (framed number payload) eo))

  pub unframe_done : to ≡ first_illegal (frame_rule p number) frame → length frame ≤ to → (d : List ℕ) (n : ℕ) → d ≡ unframed number frame
      → n ≡ differing number frame own → after (Ok n) d ≡ unframe_call p number frame overhead payload
  unframe_done et h d n e en =
      call_done _ _ _ _ (first_passed _ _ a is v _ ea (is_legal (frame_rule p number) frame to et _ _ h none_left))
      (ap₂ (λ x y. after (Ok x) y) (en ∙ ap (differing number frame) eo) e)

-- ---- refused calls leave the buffer as it was

pub frame_keeps : (p : Modulation) (number : ℕ) (payload overhead frame : List ℕ)
    → TurnedBack (frame_call p number payload overhead frame).answer
    → (frame_call p number payload overhead frame).written ≡ frame
frame_keeps p number payload overhead frame = call_keeps _ _ _ refl

pub unframe_keeps : (p : Modulation) (number : ℕ) (frame overhead payload : List ℕ)
    → TurnedBack (unframe_call p number frame overhead payload).answer
    → (unframe_call p number frame overhead payload).written ≡ payload
unframe_keeps p number frame overhead payload = call_keeps _ _ _ refl

-- ---- calls that are accepted

module _ (p : Modulation) (number : ℕ) (overhead frame payload : List ℕ) (ln : number ≤ 47) (lo : length overhead ≡ 12288) (lf : length frame ≡ 7424)
    (lp : length payload ≡ payload_cells number * 2) (own : Legal overhead_rule (own_overhead number overhead)) where
  tests_pass : Ok 0 ≡ verdict (sub_frame_tests number overhead frame payload)
  unfolding sub_frame_tests
  tests_pass =
      let measured : (ts : List Test) (a : Answer) → a ≡ verdict ts → a ≡ verdict (payload_misfit number payload ∷ ts) =
      λ ts a. payload_measured number payload ts _ refl ln a lp in
      let legal = overhead_legal number overhead _ refl _ refl [] (Ok 0) (none_illegal overhead_rule (own_overhead number overhead) own) none_left in
      search (tests, measured, legal)

  pub frame_accepts : Legal (payload_rule p) payload
      → frame_call p number payload overhead frame ≡ after (Ok 0) (framed number payload (own_overhead number overhead))
  frame_accepts legal =
      sym (frame_done p number 0 (Ok 0) refl overhead frame payload _ refl tests_pass _ refl (none_illegal (payload_rule p) payload legal) _ refl)

  pub unframe_accepts : Legal (frame_rule p number) frame
      → unframe_call p number frame overhead payload ≡ after (Ok (differing number frame (own_overhead number overhead))) (unframed number frame)
  unframe_accepts legal =
      sym (unframe_done p number 0 (Ok 0) refl overhead frame payload _ refl tests_pass _ refl (none_illegal (frame_rule p number) frame legal) _ _ refl refl)

-- ---- each call undoes the other

module _ (p : Modulation) (number : ℕ) (overhead frame payload : List ℕ) (ln : number ≤ 47) (lo : length overhead ≡ 12288) (lf : length frame ≡ 7424)
    (lp : length payload ≡ payload_cells number * 2) (own : Legal overhead_rule (own_overhead number overhead)) where
  -- Unframing, lent what framing left and the same list, is accepted and gives the payload and 0, whatever stood in the buffers.
  pub unframe_after_frame : (out : List ℕ) → length out ≡ payload_cells number * 2 → Legal (payload_rule p) payload
      → unframe_call p number (frame_call p number payload overhead frame).written overhead out ≡ after (Ok 0) payload
  unframe_after_frame out lq legal =
      ap (λ a. unframe_call p number a.written overhead out) (frame_accepts p number overhead frame payload ln lo lf lp own legal)
      ∙ unframe_accepts p number overhead (framed number payload (own_overhead number overhead)) out ln lo
      (framed_length number payload (own_overhead number overhead)) lq own
      (framed_legal p number payload (own_overhead number overhead) lp (own_length number overhead ln lo) legal own)
      ∙ ap₂ (λ v d. after (Ok v) d) (differing_framed number payload (own_overhead number overhead)) (unframed_framed number payload (own_overhead number overhead) lp)

  -- Framing, lent what unframing left and the same list, gives the frame back where no overhead cell differed.
  pub frame_after_unframe : (out : List ℕ) → length out ≡ 7424 → Legal (frame_rule p number) frame
      → differing number frame (own_overhead number overhead) ≡ 0
      → frame_call p number (unframe_call p number frame overhead payload).written overhead out ≡ after (Ok 0) frame
  frame_after_unframe out lq legal zero =
      ap (λ a. frame_call p number a.written overhead out) (unframe_accepts p number overhead frame payload ln lo lf lp own legal)
      ∙ frame_accepts p number overhead out (unframed number frame) ln lo lq (unframed_length number frame) own (unframed_legal p number frame lf legal)
      ∙ ap (after (Ok 0)) (framed_unframed number frame (own_overhead number overhead) lf zero)

-- ---- overhead errors never touch payload

-- Legal (frame_rule p number) frames that agree on the payload cells, unframed with legal lists of any content, leave one payload.
pub unframe_payload : (p : Modulation) (number : ℕ) (f g list other out out' : List ℕ) → number ≤ 47 → length f ≡ 7424 → length g ≡ 7424
    → length list ≡ 12288 → length other ≡ 12288
    → length out ≡ payload_cells number * 2 → length out' ≡ payload_cells number * 2 → Legal (frame_rule p number) f
    → Legal (frame_rule p number) g → Legal overhead_rule list → Legal overhead_rule other
    → ((m h : ℕ) → m < 3712 → h < 2 → is_overhead number m ≡ false → get_or f (m * 2 + h) 0 ≡ get_or g (m * 2 + h) 0)
    → (unframe_call p number f list out).written ≡ (unframe_call p number g other out').written
unframe_payload p number f g list other out out' ln lf lg ll lr lp lq hf hg hl hr same =
    ap (λ a. a.written) (unframe_accepts p number list f out ln ll lf lp (own_legal number list ln ll hl) hf)
    ∙ overhead_never_payload number f g same
    ∙ sym (ap (λ a. a.written) (unframe_accepts p number other g out' ln lr lg lq (own_legal number other ln lr hr) hg))
