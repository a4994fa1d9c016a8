-- Coded pairs and payloads as bytes, of the 32 words of a pair. 01, "Rows and pairs": "Work goes by pairs: pair P is rows 2P and 2P+1."
-- Assumes nothing.
use Rattle.std.specs.Prelude.{List, ℕ, ◌+◌, ◌*◌, ◌/◌, ◌%◌, eqb}
use Rattle.bits.specs.Bits.{bit, pack}
use Rattle.bits.specs.Least.{least}
use Rattle.word_spec.specs.CodeWord.{Word}
use Rattle.pair_spec.specs.Rows.{RowBits, back_bit, payload_index}

-- "coded 512 bytes: 256 a row, row 2P first, bit index 128r+16C+c": the index of bit (C, r, c) of row s, 0 or 1, of a pair.
unfoldable pub pair_index : RowBits
pair_index s C r c = 2048 * s + (128 * r + 16 * C + c)

-- Bit (C, r, c) of row s, 0 or 1, of a coded pair.
unfoldable pub pair_bit : List ℕ → RowBits
pair_bit p s C r c = bit p (pair_index s C r c)

-- The words of a pair are numbered 0 to 31, "word (2P, 0) first": word w of pair P is that of row 2P + w div 16, bit row w mod 16.
abbrev pub word_row : ℕ → ℕ → ℕ
word_row P w = 2 * P + w / 16

abbrev pub word_bit_row : ℕ → ℕ
word_bit_row w = w % 16

-- Bits of the 32 words laid out by an index, which says where bit 128+k of word w stands, k below n. At i stands the bit whose
-- index is i: of the word `source_index / n`, bit 128 + `source_index mod n`.
unfoldable pub source_index : ℕ → (ℕ → ℕ → ℕ) → ℕ → ℕ
source_index n index i = least (32 * n) (λ m. eqb (index (m / n) (m % n)) i)

unfoldable pub laid_out : ℕ → (ℕ → ℕ → ℕ) → (ℕ → Word) → ℕ → ℕ
laid_out n index words i = words (source_index n index i / n) (128 + source_index n index i % n)

-- Where bit 128+k of word w stands in a coded pair: the back half's formula, with each bit's index for V.
unfoldable pub coded_index : ℕ → ℕ → ℕ
coded_index w k = back_bit pair_index (w / 16) (word_bit_row w) (128 + k)

-- And in a payload of its own pair, which is that of rows 0 and 1.
unfoldable pub own_index : ℕ → ℕ → ℕ
own_index w k = payload_index (w / 16) (word_bit_row w) k

-- The coded pair whose words have these back halves: "coded 512 bytes".
unfoldable pub coded_pair : (ℕ → Word) → List ℕ
coded_pair words = pack 512 (laid_out 128 coded_index words)

-- The payload of these words: "Payload 444 bytes", bits 128 to 238 of each.
unfoldable pub payload_of : (ℕ → Word) → List ℕ
payload_of words = pack 444 (laid_out 111 own_index words)
