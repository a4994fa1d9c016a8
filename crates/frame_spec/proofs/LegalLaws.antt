-- The first illegal byte of a frame, as the code finds it. For 16-QAM a payload byte is legal where an overhead byte is, so that one
-- search serves the whole frame; otherwise the frame and its payload are judged whole, and searched cell by cell where one is not legal.
-- Assumes nothing.
use Rattle.std.specs.Prelude.{◌≡◌, refl, List, ◌≢◌, ℕ, ◌*◌, ◌/◌, ◌%◌, ◌<◌, eqb, ltb, leb, length, get_or, Option, None}
use Rattle.std.proofs.Common.{sym, ap, ◌∙◌, arith, eq-eqb, lt-ltb, le-ltb}
use Rattle.std.proofs.Math.Decide.{dec_lt}
use Rattle.bits.specs.LeastLaws.{least_ext}
use Rattle.bits.specs.Seeking.{first, first_none}
use Rattle.bits.proofs.TestLaws.{either}
use Rattle.profile.specs.declared.Profile.{Profile}
use Rattle.profile.specs.declared.Profile.TheVariants.{Qam16}
use Rattle.cells_spec.specs.Modulation.{Modulation}
use Rattle.cells_spec.specs.Cells.{overhead_rule, payload_rule, first_illegal, found, Legal}
use Rattle.cells_spec.proofs.CellLaws.{all_legal}
use Rattle.cells_spec.proofs.FoundLaws.{found_none, not_found}
use Rattle.profiles_spec.specs.Profiles.{qam16, modulation}
use Rattle.profiles_spec.proofs.ProfileLaws.{is_qam16}
use Rattle.frame_spec.specs.Frames.{is_overhead, payload_cells, cell_rule, frame_rule, unframed}
use Rattle.frame_spec.proofs.FrameLaws.{unframed_length, parts_legal}
use Rattle.frame_spec.specs.Layout.{edge}
use Rattle.frame_spec.proofs.LayoutLaws.{which, low_is, pilot_is, rest_is}

-- ---- 16-QAM

frame_flat : (s : ℕ) (cells : List ℕ) → first_illegal overhead_rule cells ≡ first_illegal (frame_rule qam16 s) cells
unfolding first_illegal first frame_rule cell_rule overhead_rule qam16
frame_flat s cells =
    least_ext (length cells) (λ j. leb 16 (get_or cells j 0)) (λ j. frame_rule qam16 s j (get_or cells j 0))
    (λ j l. either (λ b. leb 16 (get_or cells j 0) ≡ b) (is_overhead s (j / 2)) _ _ refl refl)

pub flat : (f : Profile) → f ≡ Qam16 → (s : ℕ) (cells : List ℕ) (at : ℕ) → at ≡ first_illegal overhead_rule cells
    → at ≡ first_illegal (frame_rule (modulation f) s) cells
flat f e s cells at ea = ea ∙ frame_flat s cells ∙ ap (λ p. first_illegal (frame_rule p s) cells) (sym (is_qam16 f e))

-- The same as the code gives it.
pub flat_found : (f : Profile) → f ≡ Qam16 → (s : ℕ) (cells : List ℕ) (r : Option ℕ) → r ≡ found (length cells) (first_illegal overhead_rule cells)
    → r ≡ found (length cells) (first_illegal (frame_rule (modulation f) s) cells)
flat_found f e s cells r er = er ∙ ap (found (length cells)) (flat f e s cells (first_illegal overhead_rule cells) refl)

-- ---- the frame and its payload, whole

module _ (p : Modulation) (s : ℕ) (frame : List ℕ) where
  -- None is illegal in either.
  pub none_in_frame : length frame ≡ 7424 → None ≡ found (length frame) (first_illegal overhead_rule frame)
      → None ≡ found (payload_cells s * 2) (first_illegal (payload_rule p) (unframed s frame))
      → None ≡ found (length frame) (first_illegal (frame_rule p s) frame)
  unfolding first_illegal
  none_in_frame lf o i =
      let ho : Legal overhead_rule frame = all_legal overhead_rule frame (found_none _ _ o) in
      let hp : Legal (payload_rule p) (unframed s frame) =
      all_legal (payload_rule p) (unframed s frame) (omega (arith, unframed_length s frame, found_none _ _ i)) in
      not_found _ _ (omega (arith, first_none 0 (frame_rule p s) frame (parts_legal p s frame lf ho hp).legal))

-- ---- cell by cell

-- A cell is overhead where it is a pilot, or below the edge.
pub is_pilot : (s m : ℕ) → m % 32 ≡ 0 → eqb (m % 32) 0 ≡ is_overhead s m
is_pilot s m z = eq-eqb (m % 32) 0 z ∙ sym (pilot_is s m z)

pub is_low : (s m e : ℕ) → e ≡ edge s → m % 32 ≢ 0 → ltb m e ≡ is_overhead s m
is_low s m e ee n = go (dec_lt m e)
  where
    go : Dec (m < e) → ltb m e ≡ is_overhead s m
    go (yes l) = lt-ltb m e l ∙ sym (low_is s m (which s) (omega arith))
    go (no l) = le-ltb m e (omega arith) ∙ sym (rest_is s m (which s) (omega arith) n)
