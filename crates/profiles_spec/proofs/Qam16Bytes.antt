-- 16-QAM as the code has it: a symbol is a byte, so bits to cells and cells to bits go byte by byte.
-- Assumes nothing.
use Rattle.std.specs.Prelude.{◌≡◌, cond, List, ℕ, ◌+◌, ◌*◌, ◌/◌, ◌%◌, ◌<◌, eqb, length, get_or}
use Rattle.std.proofs.Common.{sym, ap, ap₂, ◌∙◌, arith, lit<}
use borrow.Author.Tests.{leb-false}
use Rattle.bits.specs.Lists.{tabulate}
use Rattle.bits.specs.Bits.{bit_of, bit}
use Rattle.cells_spec.specs.Levels.{level, rails}
use Rattle.cells_spec.specs.Qam16.{x_of, y_of, cell_byte}
use Rattle.cells_spec.specs.Qam16Inverse.{byte_of_cell}
use Rattle.cells_spec.proofs.Qam16Laws.{byte_of_cell_lt, x_back, y_back}
use Rattle.cells_spec.specs.Modulation.{symbol_of}
use Rattle.cells_spec.proofs.ModulationLaws.{symbol_is}
use Rattle.cells_spec.specs.Cells.{payload_rule, Legal, symbol_at, cells_at, to_cells, cells_bit, to_bits}
use Rattle.cells_spec.proofs.CellLaws.{symbol_at_bit, cells_made, bits_made}
use Rattle.profiles_spec.specs.Profiles.{qam16}

-- Byte j of the cells of a buffer of bits, and byte i of the bits of a buffer of cells.
unfoldable pub cells_byte : List ℕ → ℕ → ℕ
cells_byte bits j = cell_byte (get_or bits (j / 2) 0) (j % 2)

unfoldable pub byte_at : List ℕ → ℕ → ℕ
byte_at cells i = byte_of_cell (get_or cells (i * 2) 0) (get_or cells (i * 2 + 1) 0)

-- Symbol i has the bits of byte i.
symbol_bit : (bits : List ℕ) (i k : ℕ) → k < 8 → bit_of 8 (symbol_at qam16 bits i) k ≡ bit_of 8 (get_or bits i 0) k
unfolding qam16 bit
symbol_bit bits i k l =
    let d : (i * 8 + k) / 8 ≡ i = omega arith in
    let m : (i * 8 + k) % 8 ≡ k = omega arith in
    symbol_at_bit qam16 bits i k l ∙ ap₂ (λ g b. bit_of 8 (get_or bits g 0) b) d m

same_cell : (a b h : ℕ) → ((k : ℕ) → k < 8 → bit_of 8 a k ≡ bit_of 8 b k) → cell_byte a h ≡ cell_byte b h
unfolding cell_byte x_of y_of
same_cell a b h e =
    ap₂ (cond (eqb h 0))
    (ap₂ rails (ap₂ level (e 0 (lit< tt)) (e 2 (lit< tt))) (ap₂ level (e 4 (lit< tt)) (e 6 (lit< tt))))
    (ap₂ rails (ap₂ level (e 1 (lit< tt)) (e 3 (lit< tt))) (ap₂ level (e 5 (lit< tt)) (e 7 (lit< tt))))

-- The symbol of a legal cell is the byte of the closed form.
pub symbol_closed : (x y : ℕ) → x < 16 → y < 16 → symbol_of qam16 x y ≡ byte_of_cell x y
unfolding qam16 cell_byte
symbol_closed x y lx ly = symbol_is qam16 (byte_of_cell x y) x y (byte_of_cell_lt x y) (x_back x y lx) (y_back x y ly)

-- The two bytes of cell i of n legal ones.
module _ {cells : List ℕ} {i : ℕ} (n : ℕ) (legal : Legal (payload_rule qam16) cells) (e : length cells ≡ n * 2) (l : i < n) where
  pub legal_x : get_or cells (i * 2) 0 < 16
  unfolding payload_rule qam16
  legal_x = leb-false 16 (get_or cells (i * 2) 0) (legal.legal (i * 2) (omega arith))

  pub legal_y : get_or cells (i * 2 + 1) 0 < 16
  unfolding payload_rule qam16
  legal_y = leb-false 16 (get_or cells (i * 2 + 1) 0) (legal.legal (i * 2 + 1) (omega arith))

pub ruleset legal = (legal_x, legal_y)

-- The buffers as they are filled.
pub cells_filled : (bits d : List ℕ) (n : ℕ) → n ≡ length bits * 2 → d ≡ tabulate n (cells_byte bits) → d ≡ to_cells qam16 bits
unfolding qam16 cells_at cells_byte
cells_filled bits d n e =
    cells_made qam16 bits d n (cells_byte bits) (omega arith)
    (λ j. sym (same_cell (symbol_at qam16 bits (j / 2)) (get_or bits (j / 2) 0) (j % 2) (symbol_bit bits (j / 2))))

pub bits_filled : (cells d : List ℕ) (n : ℕ) → Legal (payload_rule qam16) cells → length cells ≡ n * 2 → d ≡ tabulate n (byte_at cells)
    → d ≡ to_bits qam16 cells
unfolding qam16 cells_bit byte_at
bits_filled cells d n legal e =
    bits_made qam16 cells d n (byte_at cells) (omega arith) (λ i l. byte_of_cell_lt (get_or cells (i * 2) 0) (get_or cells (i * 2 + 1) 0)) at
  where
    at : (i k : ℕ) → i < n → k < 8 → bit_of 8 (byte_at cells i) k ≡ cells_bit qam16 cells (i * 8 + k)
    at i k l lk =
        let d : (i * 8 + k) / 8 ≡ i = omega arith in
        let m : (i * 8 + k) % 8 ≡ k = omega arith in
        ap (λ b. bit_of 8 b k) (sym (symbol_closed (get_or cells (i * 2) 0) (get_or cells (i * 2 + 1) 0) (legal_x n legal e l) (legal_y n legal e l)))
        ∙ sym (ap₂ (λ g b. bit_of 8 (symbol_of qam16 (get_or cells (g * 2) 0) (get_or cells (g * 2 + 1) 0)) b) d m)
