-- Laws of the refused calls: what each answers, and that it leaves the history as it was.
-- Assumes nothing.
use Rattle.std.specs.Prelude.{◌≡◌, List, ◌≢◌, ℕ, ◌<◌, leb, get_or}
use Rattle.std.proofs.Math.Path.{refl, sym, ap}
use Rattle.std.proofs.Common.{◌∙◌}
use native.Mathlib.Omega.{arith}
use Rattle.std.proofs.Math.ListN.{length}
use Rattle.calls.specs.Answers.{Answer}
use Rattle.std.specs.Prelude.{Err}
use Rattle.calls.specs.declared.Refusal.TheVariants.{Misfit, CountSpent, NoSuchFrame, OffGrid}
use Rattle.calls.specs.Calls.{After, after}
use Rattle.calls.proofs.CallLaws.{Own, is_misfit, no_misfit, no_sub_frame_lem, sub_frame_lem, tests, call_refused}
use Rattle.bits.specs.Count.{count}
use Rattle.bits.specs.Seeking.{seek_none, seek_hit}
use Rattle.cells_spec.specs.Modulation.{Modulation}
use Rattle.cells_spec.specs.Cells.{overhead_rule, first_illegal}
use Rattle.frame_spec.specs.Frames.{payload_cells, overhead_start, own_overhead}
use Rattle.frame_spec.proofs.FrameLaws.{own_length, own_at}
use Rattle.frame_spec.proofs.LayoutLaws.{overhead_zeroth, payload_zeroth}
use Rattle.frame_spec.specs.Calls.{sub_frame_tests, frame_call}
use Rattle.frame_spec.proofs.CallLaws.{payload_unmeasured, payload_measured, overhead_illegal_lem}
use Rattle.pair_spec.specs.Front.{encoder_of, next_pair, BeforePair}
use Rattle.pair_spec.proofs.FrontLaws.{own_before}
use Rattle.pair_spec.specs.Calls.{Encoded, after_encode, encode_call, Received, after_receive, receive_call}

-- A history that shows the count spent is not stray to a call that names it.
own_spent : (history : List ℕ) (e P : ℕ) → BeforePair 0 4294967295 history → e ≡ 0 → P ≡ 4294967295 → Own (encoder_of history) (next_pair history) e P
own_spent history e P b ee ep = rw (ee, ep) (own_before b (omega arith) (omega arith))

module _ (r : Answer) (c h payload coded history : List ℕ) (e P : ℕ) (is : after_encode r c h ≡ encode_call payload coded history e P) where
  module _ (l : length payload ≡ 443) where
    short : after_encode r c h ≡ after_encode (Err Misfit) coded history
    short = let n : length payload ≢ 444 = λ e. omega (arith, l, e) in is ∙ sym (call_refused _ _ _ Misfit (is_misfit _ _ _ n))

    pub encode_misfit : r ≡ Err Misfit
    encode_misfit = ap (λ (x : Encoded). x.answer) short

    pub encode_misfit_keeps : h ≡ history
    encode_misfit_keeps = ap (λ (x : Encoded). x.written.history) short

  pub encode_late : length payload ≡ 444 → length coded ≡ 512 → BeforePair 0 4294967295 history → e ≡ 0 → P ≡ 4294967295 → r ≡ Err CountSpent
  encode_late lp lc b ee ep =
      let lh = b.long in
      let o = own_spent history e P b ee ep in
      ap (λ (x : Encoded). x.answer) (is ∙ sym (call_refused _ _ _ CountSpent (search tests depth 7)))

module _ (r : Answer) (y m h coded payload marks history : List ℕ) (e P : ℕ) (is : after_receive r y m h ≡ receive_call coded payload marks history e P) where
  module _ (l : length coded ≡ 511) where
    receive_short : after_receive r y m h ≡ after_receive (Err Misfit) payload marks history
    receive_short = let n : length coded ≢ 512 = λ e. omega (arith, l, e) in is ∙ sym (call_refused _ _ _ Misfit (is_misfit _ _ _ n))

    pub receive_misfit : r ≡ Err Misfit
    receive_misfit = ap (λ (x : Received). x.answer) receive_short

    pub receive_misfit_keeps : h ≡ history
    receive_misfit_keeps = ap (λ (x : Received). x.written.history) receive_short

  pub receive_late : length coded ≡ 512 → length payload ≡ 444 → length marks ≡ 32 → BeforePair 0 4294967295 history → e ≡ 0 → P ≡ 4294967295
      → r ≡ Err CountSpent
  receive_late lc lp lm b ee ep =
      let lh = b.long in
      let o = own_spent history e P b ee ep in
      ap (λ (x : Received). x.answer) (is ∙ sym (call_refused _ _ _ CountSpent (search tests depth 8)))

module _ (p : Modulation) (r : Answer) (d payload list frame : List ℕ) (lo : length list ≡ 12288) (lf : length frame ≡ 7424) where
  pub frame_beyond : after r d ≡ frame_call p 48 payload list frame → r ≡ Err NoSuchFrame
  unfolding sub_frame_tests
  frame_beyond is =
      let beyond : 47 < 48 = omega arith in
      ap (λ (x : After (List ℕ)). x.answer)
      (is ∙ sym (call_refused _ _ _ NoSuchFrame
      (no_misfit _ _ _ _ lo (no_misfit _ _ _ _ lf (payload_unmeasured 48 payload _ _ beyond (no_sub_frame_lem _ _ beyond))))))

  -- The first byte of the list is illegal.
  pub frame_off_grid : after r d ≡ frame_call p 0 payload list frame → length payload ≡ 6980 → get_or list 0 0 ≡ 16
      → r ≡ Err (OffGrid 0)
  unfolding first_illegal overhead_rule overhead_start count sub_frame_tests
  frame_off_grid is lp e =
      ap (λ (x : After (List ℕ)). x.answer)
      (is ∙ sym (call_refused _ _ _ (OffGrid 0)
      (no_misfit _ _ _ _ lo (no_misfit _ _ _ _ lf (payload_measured 0 payload _ (payload_cells 0) refl (omega arith) _ (lp ∙ omega (arith, payload_zeroth))
      (sub_frame_lem _ _ _ (omega arith)
      (overhead_illegal_lem 0 list (own_overhead 0 list) refl 0
      (seek_hit (seek_none 0 overhead_rule (own_overhead 0 list)) some (ap (leb 16) (own_at 0 list 0 (omega (arith, overhead_zeroth)) ∙ e))) _ 0 refl some)))))))
    where
      some : 0 < length (own_overhead 0 list)
      some = omega (arith, own_length 0 list (omega arith) lo, overhead_zeroth)

pub ruleset refusing = (encode_misfit, encode_misfit_keeps, encode_late, receive_misfit, receive_misfit_keeps, receive_late, frame_beyond, frame_off_grid)
