-- The repair that syndromes tell: of every word that has them.
-- Assumes nothing.
use Rattle.std.specs.Prelude.{◌≡◌, Bool, ◌<◌}
use Rattle.word_spec.specs.CodeWord.{Word}
use Rattle.word_spec.specs.Repair.{repair}
use Rattle.word_spec.proofs.RepairLaws.{Bits}
use Rattle.word_spec.specs.Syndromes.{syndromes_of}
use Rattle.word_spec.specs.declared.Repair.{Repair}
use Rattle.word_spec.specs.declared.Repair.TheVariants.{Sound, One, Two, Lost}
use Rattle.word_spec.specs.declared.Syndromes.{Syndromes}

pub record Told (front : Bool) (s : Syndromes) (r : Repair) : Type 0 where
  pub told : (w : Word) → Bits w → s ≡ syndromes_of w → r ≡ repair front w

-- The places of a repair lie in the word.
abbrev pub Inside : Repair → Type 0
Inside Sound = Unit {0}
Inside (One i) = i < 256
Inside (Two i j) = (i < 256) × (j < 256)
Inside Lost = Unit {0}
