-- The sums and parities of a row, as code gathers them.
-- Assumes nothing.
use Rattle.std.specs.Prelude.{◌≡◌, List, ℕ, get_or, set}
use Rattle.bits.specs.Xor.{◌⊕◌, xor_sum}
use Rattle.blocks.specs.Laying.{Laid}
use Rattle.gathering_spec.specs.Sums.{halves_lane}
use Rattle.rows_core.specs.Held.{Fronts, Backs}

-- z are the sums of the blocks of row s, and p its parities. Bit 255, which stands in number 127, counts in the parities alone.
pub record RowChecked (h : List ℕ) (P : ℕ) (halves : List ℕ) (s : ℕ) (z : List ℕ) (p : ℕ) : Type 0 where
  pub x : List ℕ
  pub y : List ℕ
  pub fronts : Fronts h P s x
  pub backs : Backs halves s y
  pub sums : Laid (halves_lane x (set y 127 0)) 8 z
  pub parity : p ≡ xor_sum 128 (λ n. get_or x n 0 ⊕ get_or y n 0)
