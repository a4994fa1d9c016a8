-- Receiving a pair. 01, "Rows and pairs": "Receiving takes a coded pair of 512 bytes, its own history and the pair number, and gives
-- payload, marks, the shifted history and P+1." It is stated over the number n of pairs that the history holds.
-- Assumes nothing.
use Rattle.std.specs.Prelude.{cond, List, ◌++◌, ℕ}
use Rattle.bits.specs.Lists.{tabulate}
use Rattle.word_spec.specs.CodeWord.{Word}
use Rattle.word_spec.specs.declared.Repair.{Repair}
use Rattle.word_spec.specs.declared.Repair.TheVariants.{Sound}
use Rattle.word_spec.specs.Repair.{repair, repaired, mark}
use Rattle.pair_spec.specs.Rows.{word_of, front_counts, checked}
use Rattle.pair_spec.specs.Pairs.{word_row, word_bit_row, coded_pair, payload_of}
use Rattle.pair_spec.specs.History.{held_bits}

module _ (n : ℕ) (history : List ℕ) (P : ℕ) (coded : List ℕ) where
  -- "Each word is front bits as held and back bits as received": the pairs of the history, and the pair received after them.
  unfoldable pub held_word : ℕ → Word
  held_word w = word_of (held_bits n (history ++ coded) P) (word_row P w) (word_bit_row w)

  -- Its repair, where it is checked; "For R < 20 .. flips may fall only in the back half". Nothing is flipped in other words.
  unfoldable pub repair_of : ℕ → Repair
  repair_of w = cond (checked (word_row P w)) (repair (front_counts (word_row P w)) (held_word w)) Sound

  -- The word that the repair yields. "A lost word's back half passes as received."
  unfoldable pub repaired_word : ℕ → Word
  repaired_word w = repaired (repair_of w) (held_word w)

  -- "Repaired back halves enter payload out (444 bytes) and history; front flips are counted but not stored."
  unfoldable pub newest_pair : List ℕ
  newest_pair = coded_pair repaired_word

  unfoldable pub payload_out : List ℕ
  payload_out = payload_of repaired_word

  -- "Marks: 32 bytes, word (2P, 0) first, each 0, 1 or 2 flips, or 3 for lost."
  unfoldable pub marks : List ℕ
  marks = tabulate 32 (λ w. mark (repair_of w))
