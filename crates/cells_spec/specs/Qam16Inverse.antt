-- The symbol of a 16-QAM cell in closed forms, as the code computes it. Qam16Laws.antt shows that it is the byte whose cell it is.
-- Assumes nothing.
use Rattle.std.specs.Prelude.{cond, List, [], ◌∷◌, ℕ, ◌*◌, ◌/◌, ◌%◌, eqb, ℤ, pos, negsuc, nat_abs, ◌-ℤ◌, get_or}
use Rattle.bits.specs.Bits.{from_bits}

-- The level I for which (I+3)/2 is k.
unfoldable pub level_at : ℕ → ℤ
level_at k = pos (2 * k) -ℤ pos 3

-- The bit pair of a level: the first bit is 1 at 3 and 1, the second at −1 and 1.
unfoldable pub first_bit : ℤ → ℕ
first_bit (pos n) = 1
first_bit (negsuc n) = 0

unfoldable pub second_bit : ℤ → ℕ
second_bit l = cond (eqb (nat_abs l) 1) 1 0

-- The levels I and Q of an X or Y byte.
unfoldable pub i_of : ℕ → ℤ
i_of v = level_at (v / 4)

unfoldable pub q_of : ℕ → ℤ
q_of v = level_at (v % 4)

-- The bits c0 to c7 of the symbol whose cell is x, y, and the byte.
unfoldable pub symbol_bits : ℕ → ℕ → List ℕ
symbol_bits x y =
    first_bit (i_of x) ∷ first_bit (i_of y) ∷ second_bit (i_of x) ∷ second_bit (i_of y)
    ∷ first_bit (q_of x) ∷ first_bit (q_of y) ∷ second_bit (q_of x) ∷ second_bit (q_of y) ∷ []

unfoldable pub byte_of_cell : ℕ → ℕ → ℕ
byte_of_cell x y = from_bits 8 (λ k. get_or (symbol_bits x y) k 0)
