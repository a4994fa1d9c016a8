-- The first illegal byte of a line, as the code finds it: sub-frame by sub-frame. The invariant of the loop: none / more / hit or end.
-- Assumes nothing.
use Rattle.std.specs.Prelude.{◌≡◌, Bool, List, ℕ, ◌+◌, ◌-◌, ◌*◌, ◌<◌, ◌≤◌, length, get_or, refl, Some, None}
use Rattle.std.proofs.Math.Path.{sym, ap, ap₂}
use Rattle.std.proofs.Common.{◌∙◌, lit<, Fits, w64}
use Rattle.std.proofs.Math.Bool.{false}
use native.Mathlib.Omega.{arith}
use Rattle.std.proofs.Math.Decide.{dec_lt}
use Rattle.bits.proofs.DigitLaws.{group_of, place_of}
use Rattle.bits.specs.Least.{least}
use Rattle.bits.specs.LeastLaws.{least_is, least_past, least_passes, least_before, least_ext}
use Rattle.bits.specs.Parts.{part, part_of}
use Rattle.bits.proofs.PartLaws.{part_of_at, part_of_length, part_long}
use Rattle.bits.specs.Seeking.{first, Seeking, seek_none, seek_end}
use Rattle.cells_spec.specs.Modulation.{Modulation}
use Rattle.cells_spec.specs.Cells.{first_illegal, found}
use Rattle.cells_spec.proofs.FoundLaws.{found_at, found_within, found_none, is_found, not_found}
use Rattle.frame_spec.specs.Frames.{frame_rule}
use Rattle.superframe_spec.specs.Apart.{line_rule}

-- None of the bytes of the first s sub-frames is illegal.
pub record Judged (p : Modulation) (line : List ℕ) (s : ℕ) : Type 0 where
  pub turns : s ≤ 48
  pub sought : Seeking 0 (line_rule p) line (s * 7424)

pub judged_none : (p : Modulation) (line : List ℕ) → Judged p line 0
judged_none p line = record { turns = omega arith; sought = seek_none 0 (line_rule p) line }

-- Byte k of sub-frame s, judged in the line.
at_line : Modulation → List ℕ → ℕ → ℕ → Bool
at_line p line s k = line_rule p (s * 7424 + k) (get_or line (s * 7424 + k) 0)

module _ {p : Modulation} {line : List ℕ} {s : ℕ} (f g at : ℕ) (h : Judged p line s) (ls : s < 48) (ll : length line ≡ 356352) (ef : f ≡ s * 7424) (eg : g ≡ f + 7424)
    (ea : at ≡ first_illegal (frame_rule p s) (part f (g - f) line)) where
  own : part f (g - f) line ≡ part_of 7424 line s
  own = let size : g - f ≡ 7424 = omega arith in ap₂ (λ x y. part x y line) ef size

  same : (k : ℕ) → k < 7424 → frame_rule p s k (get_or (part_of 7424 line s) k 0) ≡ at_line p line s k
  unfolding at_line line_rule
  same k l =
      ap₂ (λ t j. frame_rule p t j (get_or (part_of 7424 line s) k 0)) (sym (group_of 7424 (lit< tt) s k l)) (sym (place_of 7424 (lit< tt) s k l))
      ∙ ap (line_rule p (s * 7424 + k)) (part_of_at 7424 48 s ls line ll k l)

  in_line : at ≡ least 7424 (at_line p line s)
  unfolding first_illegal first
  in_line =
      ea ∙ ap (first_illegal (frame_rule p s)) own
      ∙ ap (λ n. least n (λ k. frame_rule p s k (get_or (part_of 7424 line s) k 0))) (part_of_length 7424 48 s ls line ll)
      ∙ least_ext 7424 (λ k. frame_rule p s k (get_or (part_of 7424 line s) k 0)) (at_line p line s) same

  -- A byte before place n of the sub-frame is legal, where none of the sub-frame's own before n is illegal.
  legal_before : (n : ℕ) → ((k : ℕ) → k < n → at_line p line s k ≡ false) → (k : ℕ) → k < s * 7424 + n → line_rule p k (get_or line k 0) ≡ false
  unfolding at_line
  legal_before n none k l = go (dec_lt k (s * 7424))
    where
      go : Dec (k < s * 7424) → line_rule p k (get_or line k 0) ≡ false
      go (yes b) = h.sought.before k b
      go (no b) =
          let e : s * 7424 + (k - s * 7424) ≡ k = omega arith in
          ap (λ i. line_rule p i (get_or line i 0)) (sym e) ∙ none (k - s * 7424) (omega arith)

  pub judged_more : 7424 ≤ at → Judged p line (s + 1)
  judged_more l =
      record {
        turns = omega arith;
        sought = record {
          upto = omega arith;
          before = λ k lk. legal_before 7424 (least_past 7424 (at_line p line s) (omega (arith, in_line))) k (omega arith);
        };
      }

  pub judged_hit : at < 7424 → f + at ≡ first_illegal (line_rule p) line
  unfolding first_illegal first at_line
  judged_hit l =
      let e : f + at ≡ s * 7424 + least 7424 (at_line p line s) = omega (arith, in_line) in
      e
      ∙ sym (least_is (length line) (λ j. line_rule p j (get_or line j 0)) (s * 7424 + least 7424 (at_line p line s)) (omega (arith, in_line))
      (least_passes 7424 (at_line p line s) (omega (arith, in_line)))
      (legal_before (least 7424 (at_line p line s)) (least_before 7424 (at_line p line s))))

pub judged_all : {p : Modulation} {line : List ℕ} {s : ℕ} (n : ℕ) → Judged p line s → length line ≡ 356352 → n ≡ length line → 48 ≤ s
    → n ≡ first_illegal (line_rule p) line
unfolding first_illegal
judged_all {p} {line} {s} n h ll en l =
    let e : n ≡ s * 7424 = omega (arith, h.turns) in
    e ∙ seek_end h.sought (omega (arith, h.turns))

-- The same as the code gives it.
module _ {p : Modulation} {line : List ℕ} {s : ℕ} (f g : ℕ) (h : Judged p line s) (ls : s < 48) (ll : length line ≡ 356352) (ef : f ≡ s * 7424) (eg : g ≡ f + 7424) where
  long : length (part f (g - f) line) ≡ 7424
  long = part_long f g 7424 line eg (omega arith)

  pub line_hit : (at : ℕ) → Some at ≡ found (length (part f (g - f) line)) (first_illegal (frame_rule p s) (part f (g - f) line))
      → Some (f + at) ≡ found (length line) (first_illegal (line_rule p) line)
  line_hit at e =
      let l : at < 7424 = omega (arith, found_within _ _ at e, long) in
      is_found _ _ _ (judged_hit f g at h ls ll ef eg (found_at _ _ at e) l) (omega arith)

  pub line_fits : (at : ℕ) → Some at ≡ found (length (part f (g - f) line)) (first_illegal (frame_rule p s) (part f (g - f) line)) → Fits w64 (f + at)
  line_fits at e = record { fits = omega (arith, found_within _ _ at e, long) }

  pub line_more : None ≡ found (length (part f (g - f) line)) (first_illegal (frame_rule p s) (part f (g - f) line)) → Judged p line (s + 1)
  line_more e = judged_more f g _ h ls ll ef eg refl (omega (arith, found_none _ _ e, long))

pub line_end : {p : Modulation} {line : List ℕ} {s : ℕ} → Judged p line s → length line ≡ 356352 → 48 ≤ s
    → None ≡ found (length line) (first_illegal (line_rule p) line)
line_end {p} {line} h ll l = not_found _ _ (omega (arith, judged_all (length line) h ll refl l))

pub ruleset judging_line = (judged_none, line_hit, line_fits, line_more, line_end)
