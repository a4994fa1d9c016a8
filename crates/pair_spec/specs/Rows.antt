-- Rows and their words. 01, "Rows and pairs".
-- Assumes nothing.
use Rattle.std.specs.Prelude.{◌≡◌, Bool, true, cond, ℕ, ◌+◌, ◌-◌, ◌*◌, ◌/◌, ◌%◌, ltb, leb}
use Rattle.bits.specs.Xor.{◌⊕◌}
use Rattle.word_spec.specs.CodeWord.{Word}

-- "rows R = 0, 1, ... of bits V(R, C, r, c): block C 0 to 7, bit row r and column c 0 to 15."
abbrev pub RowBits : Type 0
RowBits = ℕ → ℕ → ℕ → ℕ → ℕ

-- "front half, k < 128: V((R^1) − 20 + 2(k div 16), k div 16, (k mod 16)^r, r)"
unfoldable pub front_bit : RowBits → ℕ → ℕ → Word
front_bit v R r k = v ((R ⊕ 1) - 20 + 2 * (k / 16)) (k / 16) ((k % 16) ⊕ r) r

-- "back half, k ≥ 128: V(R, (k−128) div 16, r, (k mod 16)^r)"
unfoldable pub back_bit : RowBits → ℕ → ℕ → Word
back_bit v R r k = v R ((k - 128) / 16) r ((k % 16) ⊕ r)

-- The rows whose front half counts, in encoder, sent bits and receiver alike: "For R < 20 the front half counts as 128 zeros and flips
-- may fall only in the back half. (.. row 20 is a full word.)"
unfoldable pub front_counts : ℕ → Bool
front_counts R = leb 20 R

-- The rows whose words a receiver checks: all. "Marks: 32 bytes, word (2P, 0) first, each 0, 1 or 2 flips, or 3 for lost."
unfoldable pub checked : ℕ → Bool
checked R = true

abbrev pub Checked : ℕ → Type 0
Checked R = checked R ≡ true

-- "The word of (R, r)", of sent, delivered and held bits alike.
unfoldable pub word_of : RowBits → ℕ → ℕ → Word
word_of v R r k = cond (ltb k 128) (cond (front_counts R) (front_bit v R r k) 0) (back_bit v R r k)

-- "For k = 0 to 110, bit 128+k is payload bit (R div 2)×3552 + ((R mod 2)×16+r)×(16 − k div 96) + (k div 16)×512 + k mod 16."
unfoldable pub payload_index : ℕ → ℕ → ℕ → ℕ
payload_index R r k = R / 2 * 3552 + (R % 2 * 16 + r) * (16 - k / 96) + k / 16 * 512 + k % 16
