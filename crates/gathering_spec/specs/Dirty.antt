-- Which of 32 words are no code words, told from what was gathered of them.
-- Assumes nothing.
use Rattle.std.specs.Prelude.{◌≡◌, List, ℕ, ◌<◌, ◌≤◌, get_or}
use Rattle.bits.specs.Bits.{bit_of}
use Rattle.word_spec.specs.CodeWord.{Word, CodeWord}

-- Bit w of d is 0 exactly where word w is a code word.
pub record Dirty (words : ℕ → Word) (d : ℕ) : Type 0 where
  pub clean : (w : ℕ) → w < 32 → bit_of 32 d w ≡ 0 → CodeWord (words w)
  pub dirty : (w : ℕ) → w < 32 → CodeWord (words w) → bit_of 32 d w ≡ 0

-- Bit w of acc is 0 exactly where bit w of q and of the first k numbers of t is.
pub record Joining (q : ℕ) (t : List ℕ) (k acc : ℕ) : Type 0 where
  pub upto : k ≤ 16
  pub clear : (w : ℕ) → bit_of 32 acc w ≡ 0 → (bit_of 32 q w ≡ 0) × ((i : ℕ) → i < k → bit_of 32 (get_or t i 0) w ≡ 0)
  pub stays : (w : ℕ) → bit_of 32 q w ≡ 0 → ((i : ℕ) → i < k → bit_of 32 (get_or t i 0) w ≡ 0) → bit_of 32 acc w ≡ 0
