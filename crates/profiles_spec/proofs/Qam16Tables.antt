-- Laws of cells_spec's specs/Qam16Tables.antt.
-- Assumes nothing.
use Rattle.std.specs.Prelude.{◌≡◌, refl, List, ℕ, ◌+◌, ◌*◌, ◌/◌, ◌%◌, ◌<◌, ◌≤◌, length, get_or, set}
use Rattle.std.proofs.Common.{◌∙◌}
use native.Mathlib.Omega.{arith}
use Rattle.bits.specs.ListLaws.{get_d_tabulate}
use Rattle.bits.specs.Filling.{Blocks, blocks_none, blocks_done, fill_two}
use Rattle.cells_spec.specs.Qam16.{cell_byte}
use Rattle.cells_spec.specs.Qam16Inverse.{byte_of_cell}
use Rattle.cells_spec.proofs.Qam16Laws.{cell_byte_lt}
use Rattle.profiles_spec.proofs.Qam16Bytes.{cells_byte, cells_filled}
use Rattle.cells_spec.specs.Cells.{to_cells}
use Rattle.profiles_spec.specs.Profiles.{qam16}
use Rattle.cells_spec.specs.Qam16Tables.{cell_bytes, symbol_cells, cell_symbol, cell_symbols}

-- As the code makes it of the two bytes.
pub cell_bytes_made : (b x y : ℕ) → x ≡ cell_byte b 0 → y ≡ cell_byte b 1 → x + y * 256 ≡ cell_bytes b
unfolding cell_bytes
cell_bytes_made b x y ex ey = rw (ex, ey)

pub cell_bytes_entry : (t : List ℕ) (b : ℕ) → t ≡ symbol_cells → b < 256 → get_or t b 0 ≡ cell_bytes b
unfolding symbol_cells
cell_bytes_entry t b e l = rw e (get_d_tabulate 256 cell_bytes b 0 l)

cell_bytes_lt : (b : ℕ) → cell_bytes b < 4096
unfolding cell_bytes
cell_bytes_lt b = omega (arith, cell_byte_lt b 0, cell_byte_lt b 1)

pub cell_bytes_below : (t : List ℕ) (b : ℕ) → t ≡ symbol_cells → b < 256 → get_or t b 0 < 4096
cell_bytes_below t b e l = omega (arith, cell_bytes_entry t b e l, cell_bytes_lt b)

-- The bytes of cell i.
module _ (bits : List ℕ) (i v : ℕ) (e : v ≡ cell_bytes (get_or bits i 0)) where
  pub cell_x : v % 256 ≡ cells_byte bits (i * 2)
  unfolding cell_bytes cells_byte
  cell_x =
      let d : i * 2 / 2 ≡ i = omega arith in
      let m : i * 2 % 2 ≡ 0 = omega arith in
      rw (d, m) (omega (arith, cell_byte_lt (get_or bits i 0) 0))

  pub cell_y : v / 256 ≡ cells_byte bits (i * 2 + 1)
  unfolding cell_bytes cells_byte
  cell_y =
      let d : (i * 2 + 1) / 2 ≡ i = omega arith in
      let m : (i * 2 + 1) % 2 ≡ 1 = omega arith in
      rw (d, m) (omega (arith, cell_byte_lt (get_or bits i 0) 0))

pub symbol_entry : (t : List ℕ) (x y : ℕ) → t ≡ cell_symbols → x < 16 → y < 16 → get_or t (x * 16 + y) 0 ≡ byte_of_cell x y
unfolding cell_symbols cell_symbol
symbol_entry t x y e lx ly =
    let d : (x * 16 + y) / 16 ≡ x = omega arith in
    let m : (x * 16 + y) % 16 ≡ y = omega arith in
    rw e (get_d_tabulate 256 cell_symbol (x * 16 + y) 0 (omega arith) ∙ rw (d, m))

-- ---- cells that are put one by one, as blocks of two bytes

pub filled_more : {f : ℕ → ℕ} {m i : ℕ} {d : List ℕ} (v w : ℕ) → Blocks f 2 m i d → i < m → v ≡ f (i * 2) → w ≡ f (i * 2 + 1)
    → Blocks f 2 m (i + 1) (set (set d (i * 2) v) (i * 2 + 1) w)
filled_more v w h l ev ew = record { turns = omega arith; filled = fill_two v w h.filled (omega arith) ev ew (omega arith) }

-- The second byte of the next cell stands in the buffer.
pub filled_second : {f : ℕ → ℕ} {m i : ℕ} {d : List ℕ} → Blocks f 2 m i d → i < m → i * 2 + 1 < length d
filled_second h l = omega (arith, h.filled.long)

pub filled_cells : (bits : List ℕ) {i : ℕ} {d : List ℕ} → Blocks (cells_byte bits) 2 (length bits) i d → length bits ≤ i
    → d ≡ to_cells qam16 bits
filled_cells bits {i} {d} h l = cells_filled bits d (length bits * 2) refl (blocks_done (length bits * 2) h l refl)

pub ruleset by_filled_cells = (blocks_none, filled_more, filled_second, filled_cells)
