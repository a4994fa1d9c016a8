-- What the code knows where it has told the profiles apart.
-- Assumes nothing.
use Rattle.std.specs.Prelude.{◌≡◌, List, ℕ, ◌*◌, ◌≤◌, length, Option}
use Rattle.std.proofs.Math.Path.{ap}
use Rattle.std.proofs.Common.{subst, ◌∙◌}
use native.Mathlib.Omega.{arith}
use Rattle.bits.specs.Parts.{part}
use Rattle.bits.proofs.PartLaws.{part_whole}
use Rattle.profile.specs.declared.Profile.{Profile}
use Rattle.profile.specs.declared.Profile.TheVariants.{Qam16, Qpsk}
use Rattle.cells_spec.specs.Modulation.{cells_per_buffer}
use Rattle.cells_spec.specs.Cells.{overhead_rule, payload_rule, first_illegal, found, Legal}
use Rattle.profiles_spec.specs.Profiles.{qam16, qpsk, modulation}

module _ (f : Profile) where
  module _ (e : f ≡ Qam16) where
    pub is_qam16 : modulation f ≡ qam16
    unfolding modulation
    is_qam16 = ap modulation e

    -- A byte of bits is two bytes of cells.
    pub fits_qam16 : (bits cells : ℕ) → bits ≡ 21504 → cells ≡ cells_per_buffer (modulation f) * 2 → cells ≡ bits * 2
    unfolding cells_per_buffer qam16
    fits_qam16 bits cells eb ec = let h : cells ≡ 43008 = rw is_qam16 at ec in omega arith

    pub legal_qam16 : (cells : List ℕ) → Legal (payload_rule (modulation f)) cells → Legal (payload_rule qam16) cells
    legal_qam16 cells = subst (λ p. Legal (payload_rule p) cells) is_qam16

  module _ (e : f ≡ Qpsk) where
    pub is_qpsk : modulation f ≡ qpsk
    unfolding modulation
    is_qpsk = ap modulation e

    -- A byte of bits is four bytes of cells.
    pub fits_qpsk : (bits cells : ℕ) → bits ≡ 21504 → cells ≡ cells_per_buffer (modulation f) * 2 → cells ≡ bits * 4
    unfolding cells_per_buffer qpsk
    fits_qpsk bits cells eb ec = let h : cells ≡ 86016 = rw is_qpsk at ec in omega arith

    pub legal_qpsk : (cells : List ℕ) → Legal (payload_rule (modulation f)) cells → Legal (payload_rule qpsk) cells
    legal_qpsk cells = subst (λ p. Legal (payload_rule p) cells) is_qpsk

-- A buffer's cells, of which the code searches the part from 0 to their number.
module _ (f : Profile) (cells : List ℕ) (fits : length cells ≡ cells_per_buffer (modulation f) * 2) where
  module _ (e : f ≡ Qam16) where
    long_qam16 : length cells ≡ 43008
    unfolding cells_per_buffer qam16
    long_qam16 = rw (is_qam16 f e) at fits

    pub inside_qam16 : 43008 ≤ length cells
    inside_qam16 = omega (arith, long_qam16)

    pub buffer_qam16 : (at : Option ℕ) → at ≡ found (length (part 0 43008 cells)) (first_illegal overhead_rule (part 0 43008 cells))
        → at ≡ found (length cells) (first_illegal (payload_rule (modulation f)) cells)
    unfolding payload_rule overhead_rule qam16
    buffer_qam16 at ea = rw (is_qam16 f e) (ea ∙ ap (λ s. found (length s) (first_illegal overhead_rule s)) (part_whole 43008 cells long_qam16))

  module _ (e : f ≡ Qpsk) where
    long_qpsk : length cells ≡ 86016
    unfolding cells_per_buffer qpsk
    long_qpsk = rw (is_qpsk f e) at fits

    pub inside_qpsk : 86016 ≤ length cells
    inside_qpsk = omega (arith, long_qpsk)

    pub buffer_qpsk : (at : Option ℕ) → at ≡ found (length (part 0 86016 cells)) (first_illegal (payload_rule qpsk) (part 0 86016 cells))
        → at ≡ found (length cells) (first_illegal (payload_rule (modulation f)) cells)
    buffer_qpsk at ea = rw (is_qpsk f e) (ea ∙ ap (λ s. found (length s) (first_illegal (payload_rule qpsk) s)) (part_whole 86016 cells long_qpsk))

pub ruleset buffer_searched = (inside_qam16, buffer_qam16, inside_qpsk, buffer_qpsk)

pub ruleset by_profile = (is_qam16, is_qpsk)

pub ruleset profile_fits = (fits_qam16, legal_qam16, fits_qpsk, legal_qpsk)
