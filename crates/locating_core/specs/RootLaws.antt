-- The roots of y y + y = c.
-- Assumes nothing.
use Rattle.std.specs.Prelude.{◌≡◌, ◌≢◌, ℕ, ◌<◌}
use Rattle.bits.specs.Xor.{◌⊕◌}
use Rattle.gf256.specs.Field.{◌·◌}

-- y is a root for c that is not 0; or it is 0, and there is none.
pub record Root (c y : ℕ) : Type 0 where
  pub found : y ≢ 0 → y · y ⊕ y ≡ c
  pub none : y ≡ 0 → (z : ℕ) → z < 256 → z · z ⊕ z ≢ c
