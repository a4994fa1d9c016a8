-- Encoding a pair. 01, "Rows and pairs": "Encoding a pair gives its coded bytes, the shifted history and P+1", and "the answer is the
-- formula over whatever history is lent"; it is stated over the number n of pairs that the history holds.
-- Assumes nothing.
use Rattle.std.specs.Prelude.{cond, List, ℕ, ◌-◌, ltb}
use Rattle.bits.specs.Bits.{bit}
use Rattle.word_spec.specs.CodeWord.{Word}
use Rattle.word_spec.specs.Completion.{completed}
use Rattle.pair_spec.specs.Rows.{word_of}
use Rattle.pair_spec.specs.Pairs.{word_row, word_bit_row, own_index, coded_pair}
use Rattle.pair_spec.specs.History.{held_bits}

module _ (n : ℕ) (history : List ℕ) (P : ℕ) (payload : List ℕ) where
  -- Word w before its completion, of which bits 0 to 238 count: the front half as held, and the payload.
  unfoldable pub open_word : ℕ → Word
  open_word w k = cond (ltb k 128) (word_of (held_bits n history P) (word_row P w) (word_bit_row w) k) (bit payload (own_index w (k - 128)))

  -- "Bits 239 to 255 make it a code word."
  unfoldable pub encoded_word : ℕ → Word
  encoded_word w = completed (open_word w)

  -- The coded pair.
  unfoldable pub encoded : List ℕ
  encoded = coded_pair encoded_word
