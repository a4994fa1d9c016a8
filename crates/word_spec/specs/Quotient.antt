-- "divisible by g", and what g is a product of: the product written out.
-- Assumes nothing.
use Rattle.std.specs.Prelude.{◌≡◌, List, [], ◌∷◌, ℕ, ◌-◌, ◌<◌}
use Rattle.gf256.specs.Polynomials.{coefficient, product}
use Rattle.word_spec.specs.CodeWord.{Word, generator}

-- There is a quotient of degree at most 238 whose product with g has, at y^j, bit 254 - j of the word ("bit 0 at power 254").
pub record Divisible (w : Word) : Type 0 where
  pub quotient : ℕ → ℕ
  pub bits : (i : ℕ) → quotient i < 2
  pub degree : (i : ℕ) → 238 < i → quotient i ≡ 0
  pub multiple : (j : ℕ) → j < 255 → w (254 - j) ≡ product quotient (coefficient generator) j

-- The second factor of g, "(y^8+y^6+y^5+y^4+y^2+y+1)"; the first is that of gf256's Powers.
unfoldable pub second_factor : List ℕ
second_factor = 8 ∷ 6 ∷ 5 ∷ 4 ∷ 2 ∷ 1 ∷ 0 ∷ []
