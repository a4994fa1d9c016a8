-- The sent bits. 01, "Rows and pairs": "For demand 3 an encoder's sent bit of (R, C, r, c) is V by the formulas above, over the
-- payloads of its accepted calls, the first being pair 0." That such bits exist and that the formulas fix them are laws
-- (SentLaws.antt).
-- Assumes nothing.
use Rattle.std.specs.Prelude.{◌≡◌, List, [], ℕ, ◌+◌, ◌*◌, ◌/◌, ◌%◌, ◌<◌, length, get_or}
use Rattle.bits.specs.Bits.{bit}
use Rattle.word_spec.specs.CodeWord.{CodeWord}
use Rattle.pair_spec.specs.Rows.{RowBits, word_of, payload_index}

-- Payload bit i over payloads of 444 bytes, 3,552 bits, each.
unfoldable pub payload_bit : List (List ℕ) → ℕ → ℕ
payload_bit payloads i = bit (get_or payloads (i / 3552) []) (i % 3552)

-- "For k = 0 to 110, bit 128+k is payload bit .."
pub record PayloadInPlace (payloads : List (List ℕ)) (v : RowBits) : Type 0 where
  pub placed : (R r k : ℕ) → R < 2 * length payloads → r < 16 → k < 111 → word_of v R r (128 + k) ≡ payload_bit payloads (payload_index R r k)

-- "Bits 239 to 255 make it a code word."
pub record CodeWords (payloads : List (List ℕ)) (v : RowBits) : Type 0 where
  pub code : (R r : ℕ) → R < 2 * length payloads → r < 16 → CodeWord (word_of v R r)

-- v are the sent bits of these payloads, in the rows that they fill.
pub record Sent (payloads : List (List ℕ)) (v : RowBits) : Type 0 where
  pub payload : PayloadInPlace payloads v
  pub words : CodeWords payloads v
