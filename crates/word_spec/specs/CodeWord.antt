-- The code words of 01, "Code words" (002, 7.2.1).
-- Assumes nothing.
use Rattle.std.specs.Prelude.{◌≡◌, Bool, false, cond, List, [], ◌∷◌, ℕ, zero, suc, ◌+◌, ◌*◌, ◌%◌, ◌<◌, eqb}
use Rattle.bits.specs.Count.{count}
use Rattle.gf256.specs.Polynomials.{reduce}

-- "A check word has bits 0 to 255": a function from the place to 0 or 1, of which places 0 to 255 count.
abbrev pub Word : Type 0
Word = ℕ → ℕ

-- "g = y^16+y^14+y^13+y^11+y^10+y^9+y^8+y^6+y^5+y+1", by its powers.
unfoldable pub generator : List ℕ
generator = 16 ∷ 14 ∷ 13 ∷ 11 ∷ 10 ∷ 9 ∷ 8 ∷ 6 ∷ 5 ∷ 1 ∷ 0 ∷ []

-- The remainder, modulo g, of the first n bits read as a polynomial, bit 0 at power n - 1: the shift register of long division,
-- which brings down one bit after the other and takes g away where y^16 stands.
unfoldable pub remainder : ℕ → Word → ℕ
remainder zero w = 0
remainder (suc n) w = reduce generator 16 (remainder n w * 2 + w n)

-- The parity of all 256 bits: 0 where it is even.
unfoldable pub parity : Word → ℕ
parity w = count 256 w % 2

-- "It is a code word when its parity is even and bits 0 to 254, bit 0 at power 254, form a polynomial divisible by g".
pub record CodeWord (w : Word) : Type 0 where
  pub bits : (k : ℕ) → k < 256 → w k < 2
  pub divisible : remainder 255 w ≡ 0
  pub even : parity w ≡ 0

-- The same as a test, of a word of bits.
unfoldable pub is_code_word : Word → Bool
is_code_word w = cond (eqb (remainder 255 w) 0) (eqb (parity w) 0) false
