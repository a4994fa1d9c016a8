-- Bits of byte buffers. 01, "Rows and pairs": "most significant bit first as everywhere here".
-- A bit is the number 0 or 1.
-- Assumes nothing.
use Rattle.std.specs.Prelude.{List, cond, ℕ, zero, suc, ◌+◌, ◌-◌, ◌*◌, ◌/◌, ◌%◌, ◌^◌, eqb, get_or}
use Rattle.bits.specs.Lists.{tabulate}

-- Bit i of a number of w bits, bit 0 the most significant.
unfoldable pub bit_of : ℕ → ℕ → ℕ → ℕ
bit_of w x i = x / 2 ^ (w - 1 - i) % 2

-- Bit i of a buffer of bytes; 0 past its end.
unfoldable pub bit : List ℕ → ℕ → ℕ
bit bytes i = bit_of 8 (get_or bytes (i / 8) 0) (i % 8)

-- The number whose w bits are f 0, f 1, .., f (w - 1), each taken modulo 2.
unfoldable pub from_bits : ℕ → (ℕ → ℕ) → ℕ
from_bits zero f = 0
from_bits (suc w) f = from_bits w f * 2 + f w % 2

-- Byte j of the buffer whose bits f gives.
unfoldable pub byte_of : (ℕ → ℕ) → ℕ → ℕ
byte_of f j = from_bits 8 (λ k. f (j * 8 + k))

-- The buffer of n bytes whose bits f gives.
unfoldable pub pack : ℕ → (ℕ → ℕ) → List ℕ
pack n f = tabulate n (byte_of f)

-- The bits f with bit i flipped.
unfoldable pub flipped : ℕ → (ℕ → ℕ) → ℕ → ℕ
flipped i f k = cond (eqb k i) (1 - f k) (f k)
