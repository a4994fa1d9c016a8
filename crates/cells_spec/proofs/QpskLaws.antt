-- Laws of QPSK: a symbol and its cell in closed forms, as the code has them, and the facts of the profile.
-- Assumes nothing.
use Rattle.std.specs.Prelude.{◌||◌, ◌≡◌, refl, Bool, true, false, ℕ, zero, suc, ◌/◌, ◌%◌, ◌<◌, T, eqb, ℤ, pos, neg_ℤ}
use Rattle.std.proofs.Common.{sym, ap₂, ◌∙◌, div-one, arith, eq-eqb, ne_eqb, leb-false, eqb→eq}
use Rattle.bits.specs.Bits.{bit_of}
use Rattle.bits.specs.Tests.{agree, every, each}
use Rattle.bits.proofs.TestLaws.{either}
use Rattle.cells_spec.specs.Levels.{Level, minus_one, plus_one, ordinal, rails}
use Rattle.cells_spec.specs.Qpsk.{bit_level, x_of, y_of, cell_byte, outer, illegal}
use Rattle.cells_spec.specs.QpskLaws.{symbol_of_cell}

pub bit_level_is : (b : ℕ) → Level (bit_level b)
unfolding bit_level
bit_level_is zero = minus_one
bit_level_is (suc b) = plus_one

pub bit_zero : (b : ℕ) → b ≡ 0 → (neg_ℤ (pos 1) ≡ bit_level b) × Level (neg_ℤ (pos 1))
unfolding bit_level
bit_zero zero e = (refl, minus_one)
bit_zero (suc b) e = absurd (omega arith)

pub bit_one : (b : ℕ) → (b ≡ 0 → ⊥) → (pos 1 ≡ bit_level b) × Level (pos 1)
unfolding bit_level
bit_one zero h = absurd (h refl)
bit_one (suc b) h = (refl, plus_one)

pub half_x : (s h r : ℕ) (i q : ℤ) → h ≡ 0 → i ≡ bit_level (s / 8 % 2) → q ≡ bit_level (s / 2 % 2) → r ≡ rails i q → r ≡ cell_byte s h
unfolding cell_byte x_of bit_of
half_x s h r i q z ei eq e = simp (eq-eqb h 0 z) (e ∙ ap₂ rails ei eq)

pub half_y : (s h r : ℕ) (i q : ℤ) → (h ≡ 0 → ⊥) → i ≡ bit_level (s / 4 % 2) → q ≡ bit_level (s % 2) → r ≡ rails i q → r ≡ cell_byte s h
unfolding cell_byte y_of bit_of
half_y s h r i q z ei eq e = simp (ne_eqb h 0 z, div-one) (e ∙ ap₂ rails ei eq)

pub ruleset halves = (half_x, half_y)

-- ---- a symbol and its cell

rails_legal : (a b : ℕ) → illegal (rails (bit_level a) (bit_level b)) ≡ false
unfolding bit_level rails ordinal illegal outer
rails_legal zero zero = refl
rails_legal zero (suc b) = refl
rails_legal (suc a) zero = refl
rails_legal (suc a) (suc b) = refl

pub cell_legal : (s h : ℕ) → illegal (cell_byte s h) ≡ false
unfolding cell_byte x_of y_of
cell_legal s h =
    either (λ v. illegal v ≡ false) (eqb h 0) (x_of s) (y_of s) (rails_legal (bit_of 4 s 0) (bit_of 4 s 2)) (rails_legal (bit_of 4 s 1) (bit_of 4 s 3))

symbol_back : (s : ℕ) → s < 16 → symbol_of_cell (x_of s) (y_of s) ≡ s
unfolding symbol_of_cell x_of y_of rails ordinal bit_level bit_of
symbol_back = agree 16 (λ s. symbol_of_cell (x_of s) (y_of s)) (λ s. s) tt

pub cell_only : (s t : ℕ) → s < 16 → t < 16 → x_of s ≡ x_of t → y_of s ≡ y_of t → s ≡ t
cell_only s t ls lt ex ey = sym (symbol_back s ls) ∙ ap₂ symbol_of_cell ex ey ∙ symbol_back t lt

or_left : (a b : Bool) → (a || b) ≡ false → a ≡ false
or_left false b e = refl
or_left true b e = e

pub low : (v : ℕ) → illegal v ≡ false → v < 16
unfolding illegal
low v e = leb-false 16 v (or_left _ (outer (v / 4)) (or_left _ (outer (v % 4)) e))

-- What a test says of all legal cells.
legal_cells : (f : ℕ → ℕ → Bool) → T (every 16 (λ x. every 16 (λ y. illegal x || illegal y || f x y))) → (x y : ℕ) → illegal x ≡ false
    → illegal y ≡ false
    → T (f x y)
legal_cells f t x y lx ly =
    let row : T (every 16 (λ k. illegal x || illegal k || f x k)) = each 16 (λ i. every 16 (λ k. illegal i || illegal k || f i k)) t x (low x lx) in
    let at : T (illegal x || illegal y || f x y) = each 16 (λ k. illegal x || illegal k || f x k) row y (low y ly) in
    simp (lx, ly) at at

pub symbol_of_cell_lt : (x y : ℕ) → x < 16 → y < 16 → symbol_of_cell x y < 16
unfolding symbol_of_cell
symbol_of_cell_lt x y lx ly = omega arith

pub x_back : (x y : ℕ) → illegal x ≡ false → illegal y ≡ false → x_of (symbol_of_cell x y) ≡ x
unfolding symbol_of_cell x_of rails ordinal bit_level bit_of illegal outer
x_back x y lx ly = eqb→eq (x_of (symbol_of_cell x y)) x (legal_cells (λ i k. eqb (x_of (symbol_of_cell i k)) i) tt x y lx ly)

pub y_back : (x y : ℕ) → illegal x ≡ false → illegal y ≡ false → y_of (symbol_of_cell x y) ≡ y
unfolding symbol_of_cell y_of rails ordinal bit_level bit_of illegal outer
y_back x y lx ly = eqb→eq (y_of (symbol_of_cell x y)) y (legal_cells (λ i k. eqb (y_of (symbol_of_cell i k)) k) tt x y lx ly)

pub cell_reached : (x y : ℕ) → illegal x ≡ false → illegal y ≡ false → (s : ℕ) × (s < 16) × (x_of s ≡ x) × (y_of s ≡ y)
cell_reached x y lx ly = (symbol_of_cell x y, symbol_of_cell_lt x y (low x lx) (low y ly), x_back x y lx ly, y_back x y lx ly)
