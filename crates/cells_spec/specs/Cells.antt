-- Cells, over a profile. Symbol i of a buffer of bits is its bits from w i on, w being the bits of a symbol: a byte for w = 8 (01: "A
-- byte's bits c0 (most significant) to c7 are one symbol"), and for w = 4 half a byte (02, E1: "A byte holds two symbols, upper half
-- first"). Its cell is cell i of the buffer's cells.
-- Assumes nothing.
use Rattle.std.specs.Prelude.{◌≡◌, Bool, false, cond, List, ℕ, ◌+◌, ◌*◌, ◌/◌, ◌%◌, ◌<◌, leb, ltb, length, get_or, Option, Some, None}
use Rattle.bits.specs.Lists.{tabulate}
use Rattle.bits.specs.Bits.{bit_of, bit, from_bits, pack}
use Rattle.bits.specs.Seeking.{first}
use Rattle.cells_spec.specs.Modulation.{Modulation, symbol_of}

-- ---- legal cells

-- A rule says of the byte v at place j of a buffer whether it is illegal there. The rule of overhead cells: "A byte of 16 or more is
-- illegal."
unfoldable pub overhead_rule : ℕ → ℕ → Bool
overhead_rule j v = leb 16 v

-- The rule of payload cells.
unfoldable pub payload_rule : Modulation → ℕ → ℕ → Bool
payload_rule p j v = p.illegal v

-- The index of the first illegal byte; the length where there is none.
unfoldable pub first_illegal : (ℕ → ℕ → Bool) → List ℕ → ℕ
first_illegal rule cells = first 0 rule cells

-- An index of a buffer of n bytes as the code gives it: there is none where it is the length or past it.
unfoldable pub found : ℕ → ℕ → Option ℕ
found n i = cond (ltb i n) (Some i) None

-- Every byte is legal.
pub record Legal (rule : ℕ → ℕ → Bool) (cells : List ℕ) : Type 0 where
  pub legal : (k : ℕ) → k < length cells → rule k (get_or cells k 0) ≡ false

module _ (p : Modulation) where
  -- ---- bits to cells

  -- Symbol i of a buffer of bits.
  unfoldable pub symbol_at : List ℕ → ℕ → ℕ
  symbol_at bits i = from_bits p.bits (λ k. bit bits (i * p.bits + k))

  -- The cells of a buffer of bits: byte j of them, and all.
  unfoldable pub cells_at : List ℕ → ℕ → ℕ
  cells_at bits j = p.cell (symbol_at bits (j / 2)) (j % 2)

  unfoldable pub to_cells : List ℕ → List ℕ
  to_cells bits = tabulate (length bits * 8 / p.bits * 2) (cells_at bits)

  -- ---- read backwards

  -- The bits of a buffer of cells: bit n of them, and all.
  unfoldable pub cells_bit : List ℕ → ℕ → ℕ
  cells_bit cells n = bit_of p.bits (symbol_of p (get_or cells (n / p.bits * 2) 0) (get_or cells (n / p.bits * 2 + 1) 0)) (n % p.bits)

  unfoldable pub to_bits : List ℕ → List ℕ
  to_bits cells = pack (length cells / 2 * p.bits / 8) (cells_bit cells)
