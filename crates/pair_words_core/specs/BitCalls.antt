-- What a closure gives that is asked for the bits of a byte.
-- Assumes nothing.
use Rattle.std.specs.Prelude.{◌≡◌, ℕ, ◌<◌}
use denote.Param.Members.{Shared}

-- f gives bit i of b's, for each of eight.
abbrev pub GivesBits : {F : Type 0} → Shared F (ℕ × Unit {0}) ℕ → F → (ℕ → ℕ) → Type 0
GivesBits g f b = (i r : ℕ) → i < 8 → g.post f (i, tt) r → r ≡ b i
