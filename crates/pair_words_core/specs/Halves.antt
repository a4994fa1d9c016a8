-- The back halves of a pair's 32 words in numbers of sixteen bits: number 8w+C holds bits 16C to 16C+15 of the back half of word w, as two
-- bytes lie in memory, the first the lower. So its bits are turned by eight columns.
-- Assumes nothing.
use Rattle.std.specs.Prelude.{List, ℕ, ◌+◌, ◌*◌, ◌/◌, ◌%◌, get_or}
use Rattle.bits.specs.Bits.{bit_of, from_bits, pack}
use Rattle.bits.specs.Lists.{tabulate}
use Rattle.word_spec.specs.CodeWord.{Word}
use Rattle.pair_words_core.specs.BackHalves.{payload_source}

unfoldable pub word_half : (ℕ → Word) → ℕ → ℕ
word_half words n = from_bits 16 (λ c. words (n / 8) (128 + (16 * (n % 8) + (c + 8) % 16)))

unfoldable pub word_halves : (ℕ → Word) → List ℕ
word_halves words = tabulate 256 (word_half words)

-- Bit m of them: bit 128 + m mod 128 of word m div 128.
unfoldable pub halves_bit : List ℕ → ℕ → ℕ
halves_bit halves m = bit_of 16 (get_or halves (m / 16) 0) ((m + 8) % 16)

-- The payload as it is gathered from there.
unfoldable pub payload_in : List ℕ → List ℕ
payload_in halves = pack 444 (λ i. halves_bit halves (payload_source i))
