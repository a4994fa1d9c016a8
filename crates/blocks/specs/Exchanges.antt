-- The permutations of a block that 01's formulas for the halves of a word name.
-- Assumes nothing.
use Rattle.std.specs.Prelude.{List, ℕ}
use Rattle.bits.specs.Xor.{◌⊕◌}
use Rattle.blocks.specs.Moves.{moved}

-- "front half, k < 128: V(.., k div 16, (k mod 16)^r, r)": in column c, bit row i changes places with bit row i^c.
unfoldable pub rows_exchanged : List ℕ → List ℕ
rows_exchanged = moved (λ i c. i ⊕ c) (λ i c. c)

-- "back half, k ≥ 128: V(R, (k−128) div 16, r, (k mod 16)^r)": in bit row i, column c changes places with column c^i.
unfoldable pub columns_exchanged : List ℕ → List ℕ
columns_exchanged = moved (λ i c. i) (λ i c. c ⊕ i)
