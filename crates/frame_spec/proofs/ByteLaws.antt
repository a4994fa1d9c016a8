-- Laws for the workers: each byte and each comparison as the code computes it is what Frames.antt says.
-- Assumes nothing.
use Rattle.std.specs.Prelude.{◌≡◌, List, ◌≢◌, ℕ, ◌+◌, ◌-◌, ◌*◌, ◌/◌, ◌%◌, ◌<◌, ◌≤◌, length, take, drop}
use Rattle.std.proofs.Math.Path.{sym, ap}
use Rattle.std.proofs.Common.{◌∙◌, eq-eqb, ne_eqb}
use native.Mathlib.Omega.{arith}
use Rattle.std.proofs.Math.ListN.{get_or}
use Rattle.bits.proofs.CountLaws.{differs_same, differs_other}
use Rattle.bits.proofs.TestLaws.{either, cond_yes, cond_no}
use Rattle.frame_spec.specs.Frames.{is_overhead, overhead_before, overhead_cells, payload_cells, overhead_start, own_overhead, frame_byte}
use Rattle.frame_spec.specs.Frames.{payload_at, cell_differs, overhead_differs}
use Rattle.frame_spec.specs.Layout.{edge, gap, payload_position}
use Rattle.frame_spec.proofs.LayoutLaws.{which, low_is, pilot_is, rest_is, overhead_low, overhead_pilot, payload_rest}
use Rattle.frame_spec.proofs.PlaceLaws.{payload_cell_position}
use Rattle.frame_spec.proofs.FrameLaws.{own_length, cell_differs_le}

-- ---- a byte of a frame

module _ (s : ℕ) (payload own : List ℕ) (m h e : ℕ) (is : e ≡ edge s) where
  pub byte_low : m < e → get_or own (m * 2 + h) 0 ≡ frame_byte s payload own m h
  unfolding frame_byte
  byte_low l =
      let l' : m < edge s = omega arith in
      ap (λ k. get_or own (k * 2 + h) 0) (sym (overhead_low s m l')) ∙ sym (cond_yes (is_overhead s m) _ _ (low_is s m (which s) l'))

  module _ (g : ℕ) (gis : g ≡ gap s) (l : e ≤ m) where
    pub byte_pilot : m % 32 ≡ 0 → get_or own ((m / 32 + g) * 2 + h) 0 ≡ frame_byte s payload own m h
    unfolding frame_byte
    byte_pilot z =
        ap (λ k. get_or own (k * 2 + h) 0) (omega (arith, overhead_pilot s m (omega arith) z)) ∙ sym (cond_yes (is_overhead s m) _ _ (pilot_is s m z))

    pub byte_rest : m % 32 ≢ 0 → get_or payload ((m - (m / 32 + 1 + g)) * 2 + h) 0 ≡ frame_byte s payload own m h
    unfolding frame_byte
    byte_rest z =
        ap (λ k. get_or payload (k * 2 + h) 0) (omega (arith, payload_rest s m (omega arith) z))
        ∙ sym (cond_no (is_overhead s m) _ _ (rest_is s m (which s) (omega arith) z))

-- ---- a byte of the payload

pub payload_read : (s : ℕ) (frame : List ℕ) (j g : ℕ) → j < payload_cells s * 2 → g ≡ gap s
    → get_or frame (((j / 2 + g) / 31 * 32 + 1 + (j / 2 + g) % 31) * 2 + j % 2) 0 ≡ payload_at s frame j
unfolding payload_at payload_position
payload_read s frame j g l e = rw e (ap (λ k. get_or frame (k * 2 + j % 2) 0) (sym (payload_cell_position s (j / 2) (omega arith))))

-- ---- a sub-frame's part of the overhead list

pub own_part : (s : ℕ) (overhead : List ℕ) (a n : ℕ) → a ≡ overhead_start s → n ≡ overhead_cells s → s ≤ 47 → length overhead ≡ 12288
    → (take (a * 2 + n * 2 - a * 2) (drop (a * 2) overhead) ≡ own_overhead s overhead) × (length (take (a * 2 + n * 2 - a * 2) (drop (a * 2) overhead)) ≡ overhead_cells s * 2)
unfolding own_overhead
own_part s overhead a n ea en l lo = (part, ap length part ∙ own_length s overhead l lo)
  where
    part : take (a * 2 + n * 2 - a * 2) (drop (a * 2) overhead) ≡ own_overhead s overhead
    part = let d : a * 2 + n * 2 - a * 2 ≡ n * 2 = omega arith in rw (d, ea, en)

-- ---- cells that differ

module _ (a : List ℕ) (i : ℕ) (b : List ℕ) (k : ℕ) where
  pub x_differs : get_or a (i * 2) 0 ≢ get_or b (k * 2) 0 → 1 ≡ cell_differs a i b k
  unfolding cell_differs
  x_differs n = sym (cond_no _ _ _ (ne_eqb _ _ n))

  module _ (x : get_or a (i * 2) 0 ≡ get_or b (k * 2) 0) where
    pub y_differs : get_or a (i * 2 + 1) 0 ≢ get_or b (k * 2 + 1) 0 → 1 ≡ cell_differs a i b k
    unfolding cell_differs
    y_differs n = sym (cond_yes _ _ _ (eq-eqb _ _ x) ∙ differs_other _ _ n)

    pub same_cell : get_or a (i * 2 + 1) 0 ≡ get_or b (k * 2 + 1) 0 → 0 ≡ cell_differs a i b k
    unfolding cell_differs
    same_cell y = sym (cond_yes _ _ _ (eq-eqb _ _ x) ∙ differs_same _ _ y)

pub ruleset cell_by_cell = (x_differs, y_differs, same_cell)

module _ (s : ℕ) (frame own : List ℕ) (m e : ℕ) (is : e ≡ edge s) where
  pub differs_low : (r : ℕ) → m < e → r ≡ cell_differs frame m own m → r ≡ overhead_differs s frame own m
  unfolding overhead_differs
  differs_low r l d =
      let l' : m < edge s = omega arith in
      d ∙ ap (cell_differs frame m own) (sym (overhead_low s m l')) ∙ sym (cond_yes (is_overhead s m) _ _ (low_is s m (which s) l'))

  pub differs_rest : e ≤ m → m % 32 ≢ 0 → 0 ≡ overhead_differs s frame own m
  unfolding overhead_differs
  differs_rest l z = sym (cond_no (is_overhead s m) _ _ (rest_is s m (which s) (omega arith) z))

  pub differs_pilot : (r g : ℕ) → g ≡ gap s → e ≤ m → m % 32 ≡ 0 → r ≡ cell_differs frame m own (m / 32 + g)
      → r ≡ overhead_differs s frame own m
  unfolding overhead_differs
  differs_pilot r g gis l z d =
      d ∙ ap (cell_differs frame m own) (omega (arith, overhead_pilot s m (omega arith) z)) ∙ sym (cond_yes (is_overhead s m) _ _ (pilot_is s m z))

pub overhead_differs_le : (s : ℕ) (frame own : List ℕ) (m : ℕ) → overhead_differs s frame own m ≤ 1
unfolding overhead_differs
overhead_differs_le s frame own m =
    either (λ v. v ≤ 1) (is_overhead s m) (cell_differs frame m own (overhead_before s m)) 0 (cell_differs_le frame m own (overhead_before s m)) (omega arith)
