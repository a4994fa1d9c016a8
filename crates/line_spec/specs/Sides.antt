-- The two encoders and their receivers.
-- Assumes nothing.
use Rattle.std.specs.Prelude.{ℕ}

-- 01, "Whole runs": "two of encoding, for encoders 0 and 1, and two of receiving, for the receiver of each encoder".
pub data Side : Type 0 where
  side0 : Side
  side1 : Side

abbrev pub encoder : Side → ℕ
encoder side0 = 0
encoder side1 = 1
