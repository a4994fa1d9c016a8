-- The check bits of the words of a pair, side by side, and the words with them, as the code has them.
-- Assumes nothing.
use Rattle.std.specs.Prelude.{cond, List, ℕ, ◌-◌, ◌*◌, ◌/◌, ◌%◌, ◌^◌, ltb, get_or, set}
use Rattle.bits.specs.Lists.{tabulate}
use Rattle.bits.specs.Xor.{◌⊕◌, xor_sum}
use Rattle.networks_spec.specs.Networks.{network, check_columns}
use Rattle.riffle_core.specs.Riffles.{by_words}

-- Of sixteen numbers, one for each bit of block 7 and bit w of each that of word w, all are sums of S1 and S3 but the one of bit 255, which
-- makes the parity even: it is the sum of the parities and of all check bits.
unfoldable pub check_numbers : List ℕ → ℕ → List ℕ
check_numbers sums odd = set (network check_columns sums) 7 (odd ⊕ xor_sum 16 (λ i. get_or (network check_columns sums) i 0))

-- The half of a number of 32 bits that is of row s of the pair.
unfoldable pub half_of : ℕ → ℕ → ℕ
half_of s x = x / 2 ^ (16 - 16 * s) % 65536

-- Word r's bit 239 in its place in block 6, and its block 7.
unfoldable pub own_number : ℕ → ℕ → ℕ
own_number own r = own / 2 ^ (15 - r) % 2 * 256

unfoldable pub last_number : List ℕ → ℕ → ℕ → ℕ
last_number last s r = half_of s (get_or last r 0)

-- Number 16C+r of row s by blocks, which has the check bits alone; and that row.
unfoldable pub check_number : List ℕ → ℕ → ℕ → ℕ → ℕ
check_number last own s n = cond (ltb n 96) 0 (cond (ltb n 112) (own_number (half_of s own) (n - 96)) (last_number last s (n - 112)))

unfoldable pub check_row : List ℕ → ℕ → ℕ → List ℕ
check_row last own s = tabulate 128 (check_number last own s)

-- The halves with these bits.
unfoldable pub completed_number : List ℕ → ℕ → List ℕ → ℕ → ℕ
completed_number last own halves n = get_or halves n 0 ⊕ get_or (by_words (check_row last own (n / 128))) (n % 128) 0

unfoldable pub completed_halves : List ℕ → ℕ → List ℕ → List ℕ
completed_halves last own halves = tabulate 256 (completed_number last own halves)
