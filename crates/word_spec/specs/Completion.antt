-- The completion of a word's first 239 bits. 01, "Rows and pairs": "Bits 239 to 255 make it a code word." That there is exactly
-- one way to do so is a law (CompletionLaws.antt).
-- Assumes nothing.
use Rattle.std.specs.Prelude.{cond, ◌-◌, ◌/◌, ◌%◌, ◌^◌, ltb}
use Rattle.bits.specs.Count.{count}
use Rattle.word_spec.specs.CodeWord.{Word, remainder}

-- The first 239 bits, and zeros after them.
unfoldable pub first_bits : Word → Word
first_bits w k = cond (ltb k 239) (w k) 0

-- With the remainder that those leave in bits 239 to 254, bit 254 at power 0.
unfoldable pub with_remainder : Word → Word
with_remainder w k = cond (ltb k 239) (w k) (remainder 255 (first_bits w) / 2 ^ (254 - k) % 2)

-- With the parity of those 255 bits in bit 255.
unfoldable pub completed : Word → Word
completed w k = cond (ltb k 255) (with_remainder w k) (count 255 (with_remainder w) % 2)
