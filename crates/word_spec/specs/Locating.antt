-- How the syndromes tell the places: what a decoder may go by.
-- Assumes nothing.
use Rattle.std.specs.Prelude.{◌≡◌, Bool, ◌≢◌, ltb}
use Rattle.std.proofs.Math.Bool.{true, false, cond}
use Rattle.bits.specs.Xor.{◌⊕◌}
use Rattle.gf256.specs.Field.{cube}
use Rattle.word_spec.specs.Syndromes.{locator}
use Rattle.word_spec.specs.Search.{Allowed}
use Rattle.word_spec.specs.declared.Repair.{Repair}
use Rattle.word_spec.specs.declared.Repair.TheVariants.{Sound, One, Two, Lost}
use Rattle.word_spec.specs.declared.Syndromes.{Syndromes}

-- ---- the syndromes that call for a repair

abbrev pub Fits : Syndromes → Repair → Type 0
Fits s Sound = (s.s1 ≡ 0) × (s.s3 ≡ 0) × (s.parity ≡ 0)
Fits s (One i) = (s.s1 ≡ locator i) × (s.s3 ≡ cube (locator i)) × (s.parity ≡ 1)
Fits s (Two i j) = (s.s1 ≡ locator i ⊕ locator j) × (s.s3 ≡ cube (locator i) ⊕ cube (locator j)) × (s.parity ≡ 0)
Fits s Lost = ⊥

-- ---- what is asked of code that finds a repair from the syndromes

-- It fits, or none does.
pub record Located (s : Syndromes) (r : Repair) : Type 0 where
  pub found : r ≢ Lost → Allowed 0 r × Fits s r
  pub none : r ≡ Lost → (q : Repair) → Allowed 0 q → Fits s q → ⊥

-- A repair with a place in the front half is none where flips may not fall there.
unfoldable pub confined : Bool → Repair → Repair
confined true r = r
confined false Sound = Sound
confined false (One i) = cond (ltb i 128) Lost (One i)
confined false (Two i j) = cond (ltb i 128) Lost (Two i j)
confined false Lost = Lost
