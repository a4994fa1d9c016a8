-- The cell that carries a payload cell of a super-frame, in closed form.
-- Assumes nothing.
use Rattle.std.specs.Prelude.{◌≡◌, ℕ, suc, ◌+◌, ◌-◌, ◌*◌, ◌/◌, ◌%◌, ◌<◌, ◌≤◌, ◌≢◌, refl}
use Rattle.std.proofs.Common.{sym, ap, ap₂, ◌∙◌, arith}
use Rattle.std.proofs.Math.Decide.{dec_lt}
use Rattle.frame_spec.specs.Frames.{payload_cells, payload_start, payload_cell, sub_frame_of, cell_of}
use Rattle.frame_spec.specs.Layout.{gap, payload_position}
use Rattle.frame_spec.proofs.LayoutLaws.{payload_start_closed, payload_zeroth, sizes_zeroth, sizes_other}
use Rattle.loopback_core.specs.Noise.{carrier}
use Rattle.frame_spec.proofs.PlaceLaws.{payload_start_next, sub_frame_of_is, payload_cell_position}

-- Place k of the cells of a sub-frame that are no pilots.
abbrev off : ℕ → ℕ
off k = k / 31 * 32 + 1 + k % 31

pub carrier_is : (x : ℕ) → x < 172032 → (r : ℕ)
    → r ≡ (x + 96) / 3586 * 3712 + ((x + 96) % 3586 + 10) / 31 * 32 + 1 + ((x + 96) % 3586 + 10) % 31
    → r ≡ carrier x
unfolding carrier cell_of payload_position
carrier_is x l r e = e ∙ sums ∙ go (dec_lt x 3490)
  where
    sums : (x + 96) / 3586 * 3712 + ((x + 96) % 3586 + 10) / 31 * 32 + 1 + ((x + 96) % 3586 + 10) % 31 ≡ (x + 96) / 3586 * 3712 + off ((x + 96) % 3586 + 10)
    sums = omega arith

    within : (s : ℕ) → s < 48 → payload_start s ≤ x → x < payload_start (suc s) → (x + 96) / 3586 ≡ s
        → (x + 96) % 3586 + 10 ≡ x - payload_start s + gap s
        → (x + 96) / 3586 * 3712 + off ((x + 96) % 3586 + 10) ≡ sub_frame_of x * 3712 + payload_cell (sub_frame_of x) (x - payload_start (sub_frame_of x))
    within s ls a b es ek =
        let y : x - payload_start s < payload_cells s = omega (arith, payload_start_next s) in
        ap₂ (λ t k. t * 3712 + off k) es ek
        ∙ ap (λ m. s * 3712 + m) (sym (payload_cell_position s (x - payload_start s) y))
        ∙ ap (λ t. t * 3712 + payload_cell t (x - payload_start t)) (sym (sub_frame_of_is s x ls a b))

    go : Dec (x < 3490) → (x + 96) / 3586 * 3712 + off ((x + 96) % 3586 + 10) ≡ sub_frame_of x * 3712 + payload_cell (sub_frame_of x) (x - payload_start (sub_frame_of x))
    go (yes h) =
        let s0 : payload_start 0 ≡ 0 = omega (arith, payload_start_next 0, payload_start_closed 0, payload_zeroth) in
        within 0 (omega arith) (omega arith) (omega (arith, payload_start_closed 0)) (omega arith) (omega (arith, s0, (sizes_zeroth {s = 0} refl).gap_is))
    go (no h) =
        let t = (x - 3490) / 3586 in
        let c : payload_start (suc ((x - 3490) / 3586)) ≡ 3490 + 3586 * ((x - 3490) / 3586) = payload_start_closed t in
        let n : suc ((x - 3490) / 3586) ≢ 0 = omega arith in
        within (suc t) (omega arith) (omega (arith, c)) (omega (arith, payload_start_closed (suc t))) (omega arith)
        (omega (arith, c, (sizes_other {s = suc ((x - 3490) / 3586)} n).gap_is))
