-- S1 and S3 of the words one by one, out of the sums of all 32: as numbers, and as the syndromes that a repair goes by.
-- Assumes nothing.
use Rattle.std.specs.Prelude.{◌≡◌, List, ℕ, ◌+◌, ◌-◌, ◌*◌, ◌/◌, ◌%◌, ◌^◌, ◌<◌, get_or}
use Rattle.bits.specs.Bits.{bit_of, from_bits}
use Rattle.bits.specs.Lists.{tabulate}
use Rattle.word_spec.specs.CodeWord.{Word}
use Rattle.word_spec.specs.Syndromes.{S1, S3}
use Rattle.word_spec.specs.declared.Syndromes.{Syndromes}

-- Bit w of eight of the sums, the last of them first: S1 of word w from 0 on, S3 from 8 on.
unfoldable pub sum_bit : List ℕ → ℕ → ℕ → ℕ → ℕ
sum_bit t from w k = bit_of 32 (get_or t (from + 7 - k) 0) w

unfoldable pub sum_of : List ℕ → ℕ → ℕ → ℕ
sum_of t from w = from_bits 8 (sum_bit t from w)

-- The sums in falling order, those of S1 in the upper halves and those of S3 in the lower.
unfoldable pub paired_sum : List ℕ → ℕ → ℕ
paired_sum t i = get_or t (7 - i) 0 * 4294967296 + get_or t (15 - i) 0 % 4294967296

unfoldable pub paired_sums : List ℕ → List ℕ
paired_sums t = tabulate 8 (paired_sum t)

-- Eight numbers of 64 bits that have S1 and S3 of the words as bytes: those of word w are bytes w div 8 and w div 8 + 4 of number w mod 8.
unfoldable pub S1_in : List ℕ → ℕ → ℕ
S1_in u w = get_or u (w % 8) 0 / 2 ^ (56 - 8 * (w / 8)) % 256

unfoldable pub S3_in : List ℕ → ℕ → ℕ
S3_in u w = get_or u (w % 8) 0 / 2 ^ (24 - 8 * (w / 8)) % 256

-- They were made of the sums t.
pub record ByWords (t u : List ℕ) : Type 0 where
  pub first : (w : ℕ) → w < 32 → S1_in u w ≡ sum_of t 0 w
  pub third : (w : ℕ) → w < 32 → S3_in u w ≡ sum_of t 8 w

-- They are S1 and S3 of these words.
pub record Collected (words : ℕ → Word) (u : List ℕ) : Type 0 where
  pub first : (w : ℕ) → w < 32 → S1_in u w ≡ S1 (words w)
  pub third : (w : ℕ) → w < 32 → S3_in u w ≡ S3 (words w)

-- The syndromes of word w from these numbers and the parities.
unfoldable pub syndromes_in : List ℕ → ℕ → ℕ → Syndromes
syndromes_in u q w = record { s1 = S1_in u w; s3 = S3_in u w; parity = q / 2 ^ (31 - w) % 2 }
