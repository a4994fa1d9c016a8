-- Laws of tests: general, about `cond` alone.
-- Assumes nothing.
use Rattle.std.specs.Prelude.{◌≡◌, refl, Bool, true, false, cond, ◌≢◌, ℕ}
use Rattle.std.proofs.Common.{arith}

-- What holds of both outcomes of a test holds of what it gives.
pub either : {A : Type 0} (P : A → Type 0) (t : Bool) (x y : A) → P x → P y → P (cond t x y)
either P true x y px py = px
either P false x y px py = py

-- A test that passes, and one that fails.
pub cond_yes : (t : Bool) (x y : ℕ) → t ≡ true → cond t x y ≡ x
cond_yes t x y e = simp e

pub cond_no : (t : Bool) (x y : ℕ) → t ≡ false → cond t x y ≡ y
cond_no t x y e = simp e

-- A test as a number, 1 or 0.
pub is_one : (t : Bool) (n : ℕ) → n ≡ cond t 1 0 → n ≢ 0 → t ≡ true
is_one true n e h = refl
is_one false n e h = absurd (h e)

pub is_zero : (t : Bool) (n : ℕ) → n ≡ cond t 1 0 → n ≡ 0 → t ≡ false
is_zero true n e h = absurd (omega arith)
is_zero false n e h = refl
