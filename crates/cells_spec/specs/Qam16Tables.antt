-- The tables that the code fills once a call: the cell of every symbol, and the symbol of every legal cell.
-- Assumes nothing.
use Rattle.std.specs.Prelude.{List, ℕ, ◌+◌, ◌*◌, ◌/◌, ◌%◌}
use Rattle.bits.specs.Lists.{tabulate}
use Rattle.cells_spec.specs.Qam16.{cell_byte}
use Rattle.cells_spec.specs.Qam16Inverse.{byte_of_cell}

-- ---- the cell of a symbol

-- X and Y as one number of 16 bits, X in the lower half.
unfoldable pub cell_bytes : ℕ → ℕ
cell_bytes b = cell_byte b 0 + cell_byte b 1 * 256

-- Entry b is the cell of symbol b.
unfoldable pub symbol_cells : List ℕ
symbol_cells = tabulate 256 cell_bytes

-- ---- the symbol of a cell

-- Entry 16 x + y is the symbol whose cell is x, y.
unfoldable pub cell_symbol : ℕ → ℕ
cell_symbol k = byte_of_cell (k / 16) (k % 16)

unfoldable pub cell_symbols : List ℕ
cell_symbols = tabulate 256 cell_symbol
