-- The numbers of a row shuffled: a riffle, as of a pack of cards, makes the highest of the seven bits of a place the lowest. So four bring
-- number 8r+C to place 16C+r, and three more bring it back.
-- Assumes nothing.
use Rattle.std.specs.Prelude.{List, ℕ, ◌+◌, ◌*◌, ◌/◌, ◌%◌, get_or}
use Rattle.bits.specs.Lists.{tabulate}

-- The two halves of a row shuffled into each other: places 2n and 2n+1 take number n of the first half and number n of the second.
unfoldable pub riffled_number : List ℕ → ℕ → ℕ
riffled_number x m = get_or x (m / 2 + 64 * (m % 2)) 0

-- The row after a riffle.
unfoldable pub riffled : List ℕ → List ℕ
riffled x = tabulate 128 (riffled_number x)

-- A row by words, number 8r+C of block C of word r, brought into the order of blocks,
unfoldable pub by_blocks : List ℕ → List ℕ
by_blocks x = riffled (riffled (riffled (riffled x)))

-- and a row by blocks, number 16C+r, into that of words.
unfoldable pub by_words : List ℕ → List ℕ
by_words x = riffled (riffled (riffled x))
