-- GF(256): bytes whose bit i stands for the i-th power of a, a root of y^8+y^4+y^3+y^2+1. The product reads only the low byte of
-- each factor, so its laws hold of all numbers.
-- Assumes nothing.
use Rattle.std.specs.Prelude.{List, [], ◌∷◌, ℕ, zero, suc}
use Rattle.gf256.specs.Linear.{lin, units}

unfoldable pub a_columns : List ℕ
a_columns = 2 ∷ 4 ∷ 8 ∷ 16 ∷ 32 ∷ 64 ∷ 128 ∷ 29 ∷ []

-- Times a, as a linear map of all numbers.
unfoldable pub shift_a : ℕ → ℕ
shift_a x = lin a_columns x

-- y, a y, a^2 y ..
unfoldable pub orbit : ℕ → ℕ → List ℕ
orbit zero y = []
orbit (suc n) y = y ∷ orbit n (shift_a y)

unfoldable pub byte : ℕ → ℕ
byte x = lin (units 8) x

infixr 70 ◌·◌
-- the sum of a^i y over the bits i of x
unfoldable pub ◌·◌ : ℕ → ℕ → ℕ
x · y = lin (orbit 8 (byte y)) x

unfoldable pub cube : ℕ → ℕ
cube x = x · x · x
