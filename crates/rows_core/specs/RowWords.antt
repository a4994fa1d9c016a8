-- Rows of coded bytes as words of sixteen bits, eight blocks side by side: as they are read, and with the words of a pair put in order.
-- Assumes nothing.
use Rattle.std.specs.Prelude.{List, ℕ, ◌+◌, ◌*◌, ◌/◌, ◌%◌, get_or}
use Rattle.bits.specs.Bits.{bit, bit_of, from_bits}
use Rattle.bits.specs.Lists.{tabulate}
use Rattle.bits.specs.Xor.{◌⊕◌}
use Rattle.blocks.specs.Exchanges.{rows_exchanged, columns_exchanged}
use Rattle.blocks.specs.Moves.{transposed}
use Rattle.blocks.specs.SideBySide.{laid, read_word, row_block, words_block}

-- The 128 words of the row of 256 bytes that starts at a byte.
unfoldable pub row_words : List ℕ → ℕ → List ℕ
row_words s from = tabulate 128 (λ x. read_word s (from + 2 * x))

-- Those of the front halves: block C from pair C of a history, from the row that starts at a byte of its pair. With each C that is a pair
-- of 512 bytes and a block of two further on.
unfoldable pub front_block : List ℕ → ℕ → ℕ → List ℕ
front_block h from C = tabulate 16 (λ i. read_word h (514 * C + 16 * i + from))

unfoldable pub front_words : List ℕ → ℕ → List ℕ
front_words h from = laid (front_block h from)

-- Words read whose bit rows, or whose columns, were exchanged block by block: bit r of number 8j+C is bit 16C+j of the front half of
-- word r; number 8r+C holds bits 16C to 16C+15 of the back half of word r, as two bytes lie in memory.
unfoldable pub fronts_block : List ℕ → ℕ → List ℕ
fronts_block words C = rows_exchanged (words_block words C)

unfoldable pub fronts_in : List ℕ → List ℕ
fronts_in words = laid (fronts_block words)

unfoldable pub backs_block : List ℕ → ℕ → List ℕ
backs_block words C = columns_exchanged (row_block words C)

unfoldable pub backs_in : List ℕ → List ℕ
backs_in words = laid (backs_block words)

-- Numbers whose columns were exchanged, number 8w+C by ^(w mod 16): from back halves in order to the words of a coded pair.
unfoldable pub exchanged_number : List ℕ → ℕ → ℕ
exchanged_number words n = from_bits 16 (λ c. bit_of 16 (get_or words n 0) (c ⊕ (n / 8 % 16)))

unfoldable pub exchanged : List ℕ → List ℕ
exchanged words = tabulate 256 (exchanged_number words)

-- The back halves of the 32 words of a coded pair in numbers of sixteen bits, as two bytes lie in memory:
-- "V(R, (k−128) div 16, r, (k mod 16)^r)".
unfoldable pub coded_half : List ℕ → ℕ → ℕ
coded_half p n = from_bits 16 (λ c. bit p (16 * n + (((c + 8) % 16) ⊕ (n / 8 % 16))))

unfoldable pub coded_halves : List ℕ → List ℕ
coded_halves p = tabulate 256 (coded_half p)

-- Block C of row s of such halves.
unfoldable pub half_block : List ℕ → ℕ → ℕ → List ℕ
half_block halves s C = tabulate 16 (λ r. get_or halves (128 * s + 8 * r + C) 0)

-- A block with its rows turned by eight.
unfoldable pub turned_rows : List ℕ → List ℕ
turned_rows b = tabulate 16 (λ i. get_or b ((i + 8) % 16) 0)

-- The columns of row s of such halves side by side, as rows turned back: bit r of number 8j+C is bit 16C+j of the back half of word 16s+r.
unfoldable pub columns_block : List ℕ → ℕ → ℕ → List ℕ
columns_block halves s C = turned_rows (transposed (half_block halves s C))

unfoldable pub columns_of : List ℕ → ℕ → List ℕ
columns_of halves s = laid (columns_block halves s)
