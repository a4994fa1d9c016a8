-- A modulation: how many bits a symbol has, the cell of a symbol, and which bytes a payload cell may not have, with the facts that all
-- laws of a line rest on. There are two: that of 01, "Cells" (Qam16.antt), and that of 02, E1 (Qpsk.antt). Profiles.antt has both.
-- Assumes nothing.
use Rattle.std.specs.Prelude.{◌≡◌, Bool, false, ℕ, ◌*◌, ◌/◌, ◌^◌, ◌<◌, eqb}
use Rattle.bits.specs.Least.{least}
use Rattle.bits.specs.Tests.{both}

-- A symbol is the number whose bits, the most significant first, are c0, c1 and so on.
pub record Modulation : Type 0 where
  -- Bits of a symbol.
  pub bits : ℕ
  -- "A cell is two bytes, X then Y": byte h of the cell of symbol s.
  pub cell : ℕ → ℕ → ℕ
  -- A byte that no payload cell has; one of 16 or more is such a byte.
  pub illegal : ℕ → Bool
  pub low : (v : ℕ) → illegal v ≡ false → v < 16
  -- A buffer's 172,032 bits are whole symbols.
  pub whole : bits * (172032 / bits) ≡ 172032
  -- The cells of symbols are legal, those of different symbols differ, and each legal cell is that of a symbol.
  pub cell_legal : (s h : ℕ) → illegal (cell s h) ≡ false
  pub cell_only : (s t : ℕ) → s < 2 ^ bits → t < 2 ^ bits → cell s 0 ≡ cell t 0 → cell s 1 ≡ cell t 1 → s ≡ t
  pub cell_reached : (x y : ℕ) → illegal x ≡ false → illegal y ≡ false → (s : ℕ) × (s < 2 ^ bits) × (cell s 0 ≡ x) × (cell s 1 ≡ y)

-- Read backwards: the symbol whose cell is x, y.
unfoldable pub symbol_of : Modulation → ℕ → ℕ → ℕ
symbol_of p x y = least (2 ^ p.bits) (λ s. both (eqb (p.cell s 0) x) (eqb (p.cell s 1) y))

-- ---- sizes

-- Cells of a buffer: one a symbol.
unfoldable pub cells_per_buffer : Modulation → ℕ
cells_per_buffer p = 172032 / p.bits

-- A super-frame has 172,032 payload cells, so as many buffers as a symbol has bits: the buffers of n super-frames.
unfoldable pub buffers_in : Modulation → ℕ → ℕ
buffers_in p n = n * p.bits

-- "A buffer takes 21 pairs" of each encoder, and a pair is two rows: the pairs and rows of an encoder in n super-frames.
abbrev pub pairs_in : Modulation → ℕ → ℕ
pairs_in p n = 21 * buffers_in p n

abbrev pub rows_in : Modulation → ℕ → ℕ
rows_in p n = 42 * buffers_in p n
