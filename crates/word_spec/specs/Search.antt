-- Which repairs the search goes through.
-- Assumes nothing.
use Rattle.std.specs.Prelude.{ℕ, ◌<◌, ◌≤◌}
use Rattle.word_spec.specs.declared.Repair.{Repair}
use Rattle.word_spec.specs.declared.Repair.TheVariants.{Sound, One, Two, Lost}

-- The repairs whose places stand from a on and rise.
abbrev pub Allowed : ℕ → Repair → Type 0
Allowed a Sound = Unit {0}
Allowed a (One i) = (a ≤ i) × (i < 256)
Allowed a (Two i j) = (a ≤ i) × (i < j) × (j < 256)
Allowed a Lost = ⊥
