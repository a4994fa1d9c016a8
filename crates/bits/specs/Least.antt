-- The least number that passes a test.
-- Assumes nothing.
use Rattle.std.specs.Prelude.{Bool, cond, ℕ, zero, suc}

-- The least number below n that passes; n where none does.
unfoldable pub least : ℕ → (ℕ → Bool) → ℕ
least zero p = zero
least (suc n) p = cond (p zero) zero (suc (least n (λ k. p (suc k))))
