-- What code has of the words of a pair on the way to its coded bytes.
-- Assumes nothing.
use Rattle.std.specs.Prelude.{◌≡◌, List, ℕ, ◌+◌, ◌*◌, get_or}
use Rattle.bits.specs.Lists.{tabulate}
use Rattle.bits.specs.Xor.{◌⊕◌}
use Rattle.networks_spec.specs.Networks.{network, check_columns}
use Rattle.gathering_spec.specs.Sums.{Gathered, Parities}
use Rattle.blocks.specs.SideBySide.{word_byte}
use Rattle.permutation_core.specs.Stages.{two_transposed}
use Rattle.rows_core.specs.Held.{halves_word}
use Rattle.rows_core.specs.RowWords.{exchanged}
use Rattle.completing_core.specs.Completing.{check_numbers, completed_halves}

-- last and own have the check bits of the words with these back halves, whose front halves a history holds before pair P.
pub record Checked (h : List ℕ) (P : ℕ) (halves last : List ℕ) (own : ℕ) : Type 0 where
  pub sums : List ℕ
  pub odd : ℕ
  pub gathered : Gathered (halves_word h P halves) sums
  pub parities : Parities (halves_word h P halves) odd
  pub last_is : last ≡ two_transposed (check_numbers sums odd)
  pub own_is : own ≡ get_or (network check_columns sums) 7 0

-- The words of row s of these halves with check bits added, number 8r+C of block C of word r.
unfoldable pub row_with : List ℕ → List ℕ → ℕ → List ℕ
row_with checks halves s = tabulate 128 (λ n. get_or halves (128 * s + n) 0 ⊕ get_or checks n 0)

-- Byte j of the coded pair: the words with their check bits, their columns exchanged, written as they lie in memory.
unfoldable pub coded_byte : List ℕ → ℕ → List ℕ → ℕ → ℕ
coded_byte last own halves = word_byte (exchanged (completed_halves last own halves))
