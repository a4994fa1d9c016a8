-- Numbers of 32 bits in a buffer, one after the other, "most significant byte first". The header of a line file and the front of a
-- history are such numbers.
-- Assumes nothing.
use Rattle.std.specs.Prelude.{List, ℕ, ◌+◌, ◌-◌, ◌*◌, ◌/◌, ◌%◌, ◌^◌, length, get_or}
use Rattle.bits.specs.Lists.{tabulate}

-- Number k of a buffer.
unfoldable pub number32 : List ℕ → ℕ → ℕ
number32 bytes k = ((get_or bytes (4 * k) 0 * 256 + get_or bytes (4 * k + 1) 0) * 256 + get_or bytes (4 * k + 2) 0) * 256 + get_or bytes (4 * k + 3) 0

-- Byte k of a number.
unfoldable pub byte32 : ℕ → ℕ → ℕ
byte32 x k = x / 2 ^ (24 - 8 * k) % 256

-- The bytes of numbers.
unfoldable pub bytes32 : List ℕ → List ℕ
bytes32 numbers = tabulate (4 * length numbers) (λ i. byte32 (get_or numbers (i / 4) 0) (i % 4))
