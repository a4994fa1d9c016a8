-- The words of a row side by side, in numbers of sixteen bits, those of both rows of a pair in numbers of 32, and their sums: number i
-- has digit i of S1, number 8 + i digit i of S3, and bit w of each number is that of word w.
-- Assumes nothing.
use Rattle.std.specs.Prelude.{◌≡◌, cond, List, ℕ, ◌+◌, ◌-◌, ◌*◌, ◌/◌, ◌%◌, ◌^◌, ◌<◌, ltb, get_or}
use Rattle.bits.specs.Bits.{bit_of}
use Rattle.bits.specs.Lists.{tabulate}
use Rattle.word_spec.specs.CodeWord.{Word, parity}
use Rattle.word_spec.specs.Syndromes.{S1, S3}
use Rattle.networks_spec.specs.Networks.{network, lane, added, back_columns, front_columns, up64_columns, up32_columns, up16_columns}

-- Blocks C of both halves.
unfoldable pub halves_lane : List ℕ → List ℕ → ℕ → List ℕ
halves_lane x y C = added (network front_columns (lane x C)) (network back_columns (lane y C))

-- Of eight lanes four.
unfoldable pub lane64 : List ℕ → ℕ → List ℕ
lane64 z C = added (network up64_columns (lane z C)) (lane z (C + 4))

-- Two lanes in numbers of 64 bits: lane C + 1 in the upper halves, lane C in the lower.
unfoldable pub paired_number : List ℕ → ℕ → ℕ → ℕ
paired_number z C i = get_or z (8 * i + C + 1) 0 * 4294967296 + get_or z (8 * i + C) 0 % 4294967296

unfoldable pub paired_lanes : List ℕ → ℕ → List ℕ
paired_lanes z C = tabulate 16 (paired_number z C)

-- Of four lanes two, both at once: lane 1 in the upper halves, lane 0 in the lower.
unfoldable pub lanes32 : List ℕ → List ℕ
lanes32 z = added (network up32_columns (paired_lanes z 0)) (paired_lanes z 2)

-- The halves of sixteen numbers of 64 bits.
unfoldable pub lower_halves : List ℕ → List ℕ
lower_halves u = tabulate 16 (λ i. get_or u i 0 % 4294967296)

unfoldable pub upper_halves : List ℕ → List ℕ
upper_halves u = tabulate 16 (λ i. get_or u i 0 / 4294967296)

-- Of the two lanes in these halves one.
unfoldable pub lane16 : List ℕ → List ℕ
lane16 u = added (network up16_columns (lower_halves u)) (upper_halves u)

-- Bit r of number 8j + C of 128: that of word r at place j of block C.
unfoldable pub bit_in : List ℕ → ℕ → ℕ → ℕ → ℕ
bit_in x j C r = bit_of 16 (get_or x (8 * j + C) 0) r

-- Word r of the sixteen whose front halves stand in x and whose back halves stand in y.
unfoldable pub word_in : List ℕ → List ℕ → ℕ → Word
word_in x y r k = cond (ltb k 128) (bit_in x (k % 16) (k / 16) r) (bit_in y (k % 16) ((k - 128) / 16) r)

-- Sixteen words and sixteen.
unfoldable pub both_rows : (ℕ → Word) → (ℕ → Word) → ℕ → Word
both_rows f g w = cond (ltb w 16) (f w) (g (w - 16))

-- Two numbers of sixteen bits in one of 32, and two rows of them.
unfoldable pub joined_number : List ℕ → List ℕ → ℕ → ℕ
joined_number a b n = get_or a n 0 * 65536 + get_or b n 0 % 65536

unfoldable pub joined_rows : List ℕ → List ℕ → List ℕ
joined_rows a b = tabulate 128 (joined_number a b)

-- s has S1 and S3 of 32 words, each as of the word alone.
pub record Gathered (words : ℕ → Word) (s : List ℕ) : Type 0 where
  pub first : (w i : ℕ) → w < 32 → i < 8 → bit_of 32 (get_or s i 0) w ≡ S1 (words w) / 2 ^ i % 2
  pub third : (w i : ℕ) → w < 32 → i < 8 → bit_of 32 (get_or s (8 + i) 0) w ≡ S3 (words w) / 2 ^ i % 2

-- And p their parities.
pub record Parities (words : ℕ → Word) (p : ℕ) : Type 0 where
  pub parity_of : (w : ℕ) → w < 32 → bit_of 32 p w ≡ parity (words w)

-- The places of the check bits in the order in which sums of S1 and S3 give them (check_columns, in `networks_spec`): bits 248 to 254, 239,
-- and 240 to 247.
unfoldable pub check_place : ℕ → ℕ
check_place i = cond (ltb i 7) (248 + i) (cond (ltb i 8) 239 (232 + i))
