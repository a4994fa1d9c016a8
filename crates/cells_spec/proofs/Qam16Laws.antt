-- Laws of 16-QAM: how the code makes and takes apart a cell, and the facts of the profile.
-- Assumes nothing.
use Rattle.std.specs.Prelude.{◌≡◌, false, ℕ, zero, suc, ◌+◌, ◌*◌, ◌/◌, ◌%◌, ◌<◌, eqb, ℤ, get_or}
use Rattle.std.proofs.Common.{sym, ap₂, ◌∙◌, div-one, arith, eq-eqb, ne_eqb, leb-false, lit<}
use Rattle.std.proofs.lemmas.Bool.{lt-leb}
use Rattle.bits.specs.Bits.{bit_of, from_bits}
use Rattle.bits.proofs.BitLaws.{bit_of_from_bits, from_bits_lt}
use Rattle.bits.specs.Tests.{agree}
use Rattle.bits.proofs.TestLaws.{either}
use Rattle.cells_spec.specs.Levels.{level, ordinal, rails}
use Rattle.cells_spec.proofs.LevelLaws.{level_is, ordinal_below, first_bit_lt, second_bit_lt}
use Rattle.cells_spec.specs.Qam16.{x_of, y_of, cell_byte, illegal}
use Rattle.cells_spec.specs.Qam16Inverse.{level_at, first_bit, second_bit, i_of, q_of, symbol_bits, byte_of_cell}

-- ---- as the code has it

pub half_x : (b h r : ℕ) (i q : ℤ) → h ≡ 0 → i ≡ level (b / 128 % 2) (b / 32 % 2) → q ≡ level (b / 8 % 2) (b / 2 % 2) → r ≡ rails i q → r ≡ cell_byte b h
unfolding cell_byte x_of bit_of
half_x b h r i q z ei eq e = simp (eq-eqb h 0 z) (e ∙ ap₂ rails ei eq)

pub half_y : (b h r : ℕ) (i q : ℤ) → (h ≡ 0 → ⊥) → i ≡ level (b / 64 % 2) (b / 16 % 2) → q ≡ level (b / 4 % 2) (b % 2) → r ≡ rails i q → r ≡ cell_byte b h
unfolding cell_byte y_of bit_of
half_y b h r i q z ei eq e = simp (ne_eqb h 0 z, div-one) (e ∙ ap₂ rails ei eq)

pub ruleset halves = (half_x, half_y)

pub weave_is : (x y p q : ℕ) → (p / 2 ≡ first_bit (level_at x)) × (p % 2 ≡ second_bit (level_at x)) × (p < 4)
    → (q / 2 ≡ first_bit (level_at y)) × (q % 2 ≡ second_bit (level_at y)) × (q < 4)
    → (p / 2 * 8 + q / 2 * 4 + p % 2 * 2 + q % 2 ≡ first_bit (level_at x) * 8 + first_bit (level_at y) * 4 + second_bit (level_at x) * 2 + second_bit (level_at y))
    × (p / 2 * 8 + q / 2 * 4 + p % 2 * 2 + q % 2 < 16)
weave_is x y p q (a, b, u) (c, d, v) = (rw (a, b, c, d), omega arith)

pub byte_woven : (x y u l : ℕ)
    → u ≡ first_bit (level_at (x / 4)) * 8 + first_bit (level_at (y / 4)) * 4 + second_bit (level_at (x / 4)) * 2 + second_bit (level_at (y / 4))
    → l ≡ first_bit (level_at (x % 4)) * 8 + first_bit (level_at (y % 4)) * 4 + second_bit (level_at (x % 4)) * 2 + second_bit (level_at (y % 4))
    → u * 16 + l ≡ byte_of_cell x y
unfolding byte_of_cell symbol_bits from_bits i_of q_of
byte_woven x y u l eu el =
    rw (eu, el)
    (omega (
      arith,
      first_bit_lt (level_at (x / 4)),
      first_bit_lt (level_at (y / 4)),
      second_bit_lt (level_at (x / 4)),
      second_bit_lt (level_at (y / 4)),
      first_bit_lt (level_at (x % 4)),
      first_bit_lt (level_at (y % 4)),
      second_bit_lt (level_at (x % 4)),
      second_bit_lt (level_at (y % 4)),
    ))

-- ---- a symbol and its cell

pub rails_lt : (a b c d : ℕ) → rails (level a b) (level c d) < 16
unfolding rails
rails_lt a b c d = omega (arith, ordinal_below (level_is a b), ordinal_below (level_is c d))

pub cell_byte_lt : (b h : ℕ) → cell_byte b h < 16
unfolding cell_byte x_of y_of
cell_byte_lt b h =
    either (λ v. v < 16) (eqb h 0) (x_of b) (y_of b) (rails_lt (bit_of 8 b 0) (bit_of 8 b 2) (bit_of 8 b 4) (bit_of 8 b 6))
    (rails_lt (bit_of 8 b 1) (bit_of 8 b 3) (bit_of 8 b 5) (bit_of 8 b 7))

pub byte_of_cell_lt : (x y : ℕ) → byte_of_cell x y < 256
unfolding byte_of_cell
byte_of_cell_lt x y = from_bits_lt 8 (λ k. get_or (symbol_bits x y) k 0)

-- Each symbol comes back from its cell.
pub byte_back : (b : ℕ) → b < 256 → byte_of_cell (x_of b) (y_of b) ≡ b
unfolding byte_of_cell symbol_bits from_bits i_of q_of first_bit second_bit level_at x_of y_of rails ordinal level bit_of
byte_back = agree 256 (λ b. byte_of_cell (x_of b) (y_of b)) (λ b. b) tt

-- ---- the bits of a symbol by their places

pub symbol_bits_lt : (x y k : ℕ) → get_or (symbol_bits x y) k 0 < 2
unfolding symbol_bits
symbol_bits_lt x y zero = first_bit_lt (i_of x)
symbol_bits_lt x y (suc zero) = first_bit_lt (i_of y)
symbol_bits_lt x y (suc (suc zero)) = second_bit_lt (i_of x)
symbol_bits_lt x y (suc (suc (suc zero))) = second_bit_lt (i_of y)
symbol_bits_lt x y (suc (suc (suc (suc zero)))) = first_bit_lt (q_of x)
symbol_bits_lt x y (suc (suc (suc (suc (suc zero))))) = first_bit_lt (q_of y)
symbol_bits_lt x y (suc (suc (suc (suc (suc (suc zero)))))) = second_bit_lt (q_of x)
symbol_bits_lt x y (suc (suc (suc (suc (suc (suc (suc zero))))))) = second_bit_lt (q_of y)
symbol_bits_lt x y (suc (suc (suc (suc (suc (suc (suc (suc k)))))))) = lit< tt

pub byte_of_cell_bit : (x y k : ℕ) → k < 8 → bit_of 8 (byte_of_cell x y) k ≡ get_or (symbol_bits x y) k 0
unfolding byte_of_cell
byte_of_cell_bit x y k l = bit_of_from_bits 8 (λ i. get_or (symbol_bits x y) i 0) k l ∙ omega (arith, symbol_bits_lt x y k)

-- A legal X or Y byte comes back from its levels' bit pairs.
rails_back : (v : ℕ) → v < 16 → rails (level (first_bit (i_of v)) (second_bit (i_of v))) (level (first_bit (q_of v)) (second_bit (q_of v))) ≡ v
unfolding i_of q_of first_bit second_bit level_at rails ordinal level
rails_back = agree 16 (λ v. rails (level (first_bit (i_of v)) (second_bit (i_of v))) (level (first_bit (q_of v)) (second_bit (q_of v)))) (λ v. v) tt

pub x_back : (x y : ℕ) → x < 16 → x_of (byte_of_cell x y) ≡ x
unfolding x_of symbol_bits
x_back x y l =
    ap₂ rails (ap₂ level (byte_of_cell_bit x y 0 (lit< tt)) (byte_of_cell_bit x y 2 (lit< tt))) (ap₂ level (byte_of_cell_bit x y 4 (lit< tt)) (byte_of_cell_bit x y 6 (lit< tt)))
    ∙ rails_back x l

pub y_back : (x y : ℕ) → y < 16 → y_of (byte_of_cell x y) ≡ y
unfolding y_of symbol_bits
y_back x y l =
    ap₂ rails (ap₂ level (byte_of_cell_bit x y 1 (lit< tt)) (byte_of_cell_bit x y 3 (lit< tt))) (ap₂ level (byte_of_cell_bit x y 5 (lit< tt)) (byte_of_cell_bit x y 7 (lit< tt)))
    ∙ rails_back y l

-- ---- the facts of the profile

pub low : (v : ℕ) → illegal v ≡ false → v < 16
low = leb-false 16

pub cell_legal : (b h : ℕ) → illegal (cell_byte b h) ≡ false
cell_legal b h = lt-leb 16 (cell_byte b h) (cell_byte_lt b h)

pub cell_only : (a b : ℕ) → a < 256 → b < 256 → x_of a ≡ x_of b → y_of a ≡ y_of b → a ≡ b
cell_only a b la lb ex ey = sym (byte_back a la) ∙ ap₂ byte_of_cell ex ey ∙ byte_back b lb

pub cell_reached : (x y : ℕ) → illegal x ≡ false → illegal y ≡ false → (b : ℕ) × (b < 256) × (x_of b ≡ x) × (y_of b ≡ y)
cell_reached x y lx ly = (byte_of_cell x y, byte_of_cell_lt x y, x_back x y (leb-false 16 x lx), y_back x y (leb-false 16 y ly))
