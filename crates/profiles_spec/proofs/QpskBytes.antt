-- Laws of cells_spec's specs/QpskBytes.antt.
-- Assumes nothing.
use Rattle.std.specs.Prelude.{◌≡◌, refl, Bool, cond, true, false, not, ◌||◌, List, ◌≢◌, eqb, length, get_or, set}
use Rattle.std.proofs.Math.Path.{sym, ap}
use Rattle.std.proofs.Common.{ap₂, ◌∙◌, lit<}
use Prim.Native.Nat.{ℕ, zero, suc, ◌+◌, ◌*◌, ◌/◌, ◌%◌, ◌<◌, ◌≤◌}
use native.Mathlib.Omega.{arith}
use borrow.Author.Tests.{eq-eqb, ne_eqb}
use Rattle.bits.specs.Lists.{tabulate}
use Rattle.bits.specs.Bits.{bit_of, bit}
use Rattle.bits.specs.Tests.{agree}
use Rattle.bits.specs.Filling.{Blocks, blocks_none, blocks_done, fill_two}
use Rattle.cells_spec.specs.Levels.{ordinal, rails}
use Rattle.cells_spec.specs.Qpsk.{bit_level, x_of, y_of, cell_byte, outer, illegal}
use Rattle.cells_spec.specs.QpskLaws.{symbol_of_cell}
use Rattle.cells_spec.proofs.QpskLaws.{symbol_of_cell_lt, low, x_back, y_back}
use Rattle.cells_spec.specs.Modulation.{symbol_of}
use Rattle.cells_spec.proofs.ModulationLaws.{symbol_is}
use Rattle.cells_spec.specs.Cells.{payload_rule, Legal, symbol_at, cells_at, to_cells, cells_bit, to_bits}
use Rattle.cells_spec.proofs.CellLaws.{symbol_at_bit, cells_made, bits_made}
use Rattle.profiles_spec.specs.Profiles.{qpsk}
use Rattle.cells_spec.specs.QpskBytes.{half_of, quarter, cells_byte, byte_at}

pub upper_half : (b h : ℕ) → h ≡ 0 → b / 16 ≡ half_of b h
unfolding half_of
upper_half b h z = simp (eq-eqb h 0 z)

pub lower_half : (b h : ℕ) → (h ≡ 0 → ⊥) → b % 16 ≡ half_of b h
unfolding half_of
lower_half b h z = simp (ne_eqb h 0 z)

-- The bits of a half.
half_bit : (b h k : ℕ) → h < 2 → k < 4 → bit_of 4 (half_of b h) k ≡ bit_of 8 b (h * 4 + k)
unfolding half_of bit_of
half_bit b zero zero lh lk = omega arith
half_bit b zero (suc zero) lh lk = omega arith
half_bit b zero (suc (suc zero)) lh lk = omega arith
half_bit b zero (suc (suc (suc zero))) lh lk = omega arith
half_bit b (suc zero) zero lh lk = omega arith
half_bit b (suc zero) (suc zero) lh lk = omega arith
half_bit b (suc zero) (suc (suc zero)) lh lk = omega arith
half_bit b (suc zero) (suc (suc (suc zero))) lh lk = omega arith
half_bit b zero (suc (suc (suc (suc k)))) lh lk = absurd (omega arith)
half_bit b (suc zero) (suc (suc (suc (suc k)))) lh lk = absurd (omega arith)
half_bit b (suc (suc h)) k lh lk = absurd (omega arith)

pub quarter_made : (b k s v : ℕ) → s ≡ half_of b (k / 2) → v ≡ cell_byte s (k % 2) → v ≡ quarter b k
unfolding quarter
quarter_made b k s v es ev = ev ∙ ap (λ c. cell_byte c (k % 2)) es

-- Symbol i has the bits of a half of byte i / 2.
symbol_bit : (bits : List ℕ) (i k : ℕ) → k < 4 → bit_of 4 (symbol_at qpsk bits i) k ≡ bit_of 4 (half_of (get_or bits (i / 2) 0) (i % 2)) k
unfolding qpsk bit
symbol_bit bits i k l =
    let d : (i * 4 + k) / 8 ≡ i / 2 = omega arith in
    let m : (i * 4 + k) % 8 ≡ i % 2 * 4 + k = omega arith in
    symbol_at_bit qpsk bits i k l
    ∙ ap₂ (λ g b. bit_of 8 (get_or bits g 0) b) d m
    ∙ sym (half_bit (get_or bits (i / 2) 0) (i % 2) k (omega arith) l)

same_cell : (a b h : ℕ) → ((k : ℕ) → k < 4 → bit_of 4 a k ≡ bit_of 4 b k) → cell_byte a h ≡ cell_byte b h
unfolding cell_byte x_of y_of
same_cell a b h e =
    ap₂ (cond (eqb h 0))
    (ap₂ rails (ap bit_level (e 0 (lit< tt))) (ap bit_level (e 2 (lit< tt))))
    (ap₂ rails (ap bit_level (e 1 (lit< tt))) (ap bit_level (e 3 (lit< tt))))

-- The buffer as it is filled.
pub cells_filled : (bits d : List ℕ) (n : ℕ) → n ≡ length bits * 4 → d ≡ tabulate n (cells_byte bits) → d ≡ to_cells qpsk bits
unfolding qpsk cells_at cells_byte quarter
cells_filled bits d n e =
    cells_made qpsk bits d n (cells_byte bits) (omega arith)
    (λ j. let q : j / 4 ≡ j / 2 / 2 = omega arith in
    let h : j % 4 / 2 ≡ j / 2 % 2 = omega arith in
    let r : j % 4 % 2 ≡ j % 2 = omega arith in
    rw (q, h, r) (sym (same_cell (symbol_at qpsk bits (j / 2)) (half_of (get_or bits (j / 2 / 2) 0) (j / 2 % 2)) (j % 2) (symbol_bit bits (j / 2)))))

-- Four bytes more.
pub filled_four : (bits : List ℕ) {m i : ℕ} {d : List ℕ} (v0 v1 v2 v3 : ℕ) → Blocks (cells_byte bits) 4 m i d → i < m
    → v0 ≡ quarter (get_or bits i 0) 0
    → v1 ≡ quarter (get_or bits i 0) 1
    → v2 ≡ quarter (get_or bits i 0) 2
    → v3 ≡ quarter (get_or bits i 0) 3
    → Blocks (cells_byte bits) 4 m (i + 1) (set (set (set (set d (i * 4) v0) (i * 4 + 1) v1) (i * 4 + 2) v2) (i * 4 + 3) v3)
unfolding cells_byte
filled_four bits {m} {i} {d} v0 v1 v2 v3 h l e0 e1 e2 e3 =
    let front = fill_two {j = i * 4 + 2} v0 v1 h.filled (omega arith) (e0 ∙ at (i * 4) 0 (lit< tt) (omega arith)) (e1 ∙ at (i * 4 + 1) 1 (lit< tt) refl) (omega arith) in
    let third : i * 4 + 3 ≡ i * 4 + 2 + 1 = omega arith in
    rw third
    (record {
      turns = omega arith;
      filled = fill_two v2 v3 front (omega arith) (e2 ∙ at (i * 4 + 2) 2 (lit< tt) refl) (e3 ∙ at (i * 4 + 2 + 1) 3 (lit< tt) (omega arith)) (omega arith);
    })
  where
    at : (j k : ℕ) → k < 4 → j ≡ i * 4 + k → quarter (get_or bits i 0) k ≡ quarter (get_or bits (j / 4) 0) (j % 4)
    at j k lk e =
        let q : j / 4 ≡ i = omega arith in
        let r : j % 4 ≡ k = omega arith in
        rw (q, r)

pub filled_cells : (bits : List ℕ) {i : ℕ} {d : List ℕ} → Blocks (cells_byte bits) 4 (length bits) i d → length bits ≤ i
    → d ≡ to_cells qpsk bits
filled_cells bits {i} {d} h l = cells_filled bits d (length bits * 4) refl (blocks_done (length bits * 4) h l refl)

-- The next four bytes stand in the buffer.
pub filled_next : {f : ℕ → ℕ} {m i : ℕ} {d : List ℕ} (k : ℕ) → Blocks f 4 m i d → i < m → k < 4 → i * 4 + k < length d
filled_next k h l lk = omega (arith, h.filled.long)

pub ruleset by_filled_cells = (blocks_none, filled_four, filled_next, filled_cells)

pub byte_joined : (cells : List ℕ) (i u l : ℕ) → u ≡ symbol_of_cell (get_or cells (i * 4) 0) (get_or cells (i * 4 + 1) 0)
    → l ≡ symbol_of_cell (get_or cells (i * 4 + 2) 0) (get_or cells (i * 4 + 3) 0)
    → u * 16 + l ≡ byte_at cells i
unfolding byte_at
byte_joined cells i u l eu el = rw (eu, el)

-- The symbol of a legal cell is that of the closed form.
symbol_closed : (x y : ℕ) → illegal x ≡ false → illegal y ≡ false → symbol_of qpsk x y ≡ symbol_of_cell x y
unfolding qpsk cell_byte
symbol_closed x y lx ly =
    symbol_is qpsk (symbol_of_cell x y) x y (symbol_of_cell_lt x y (low x lx) (low y ly)) (x_back x y lx ly) (y_back x y lx ly)

module _ {cells : List ℕ} (n : ℕ) (legal : Legal (payload_rule qpsk) cells) (e : length cells ≡ n * 4) where
  legal_at : (j : ℕ) → j < n * 4 → illegal (get_or cells j 0) ≡ false
  unfolding payload_rule qpsk
  legal_at j l = legal.legal j (omega arith)

  -- The four bytes of byte i.
  module _ {i : ℕ} (l : i < n) where
    pub low_0 : get_or cells (i * 4) 0 < 16
    low_0 = low _ (legal_at (i * 4) (omega arith))

    pub low_1 : get_or cells (i * 4 + 1) 0 < 16
    low_1 = low _ (legal_at (i * 4 + 1) (omega arith))

    pub low_2 : get_or cells (i * 4 + 2) 0 < 16
    low_2 = low _ (legal_at (i * 4 + 2) (omega arith))

    pub low_3 : get_or cells (i * 4 + 3) 0 < 16
    low_3 = low _ (legal_at (i * 4 + 3) (omega arith))

  -- The halves of byte i are the symbols of its two cells.
  half_at : (i h : ℕ) → i < n → h < 2 → half_of (byte_at cells i) h ≡ symbol_of qpsk (get_or cells ((i * 2 + h) * 2) 0) (get_or cells ((i * 2 + h) * 2 + 1) 0)
  unfolding half_of byte_at
  half_at i zero l lh =
      let x : (i * 2 + 0) * 2 ≡ i * 4 = omega arith in
      rw x (omega (arith, symbol_of_cell_lt _ _ (low_2 l) (low_3 l)) ∙ sym (symbol_closed _ _ (legal_at (i * 4) (omega arith)) (legal_at (i * 4 + 1) (omega arith))))
  half_at i (suc zero) l lh =
      let x : (i * 2 + 1) * 2 ≡ i * 4 + 2 = omega arith in
      let y : i * 4 + 2 + 1 ≡ i * 4 + 3 = omega arith in
      rw (x, y) (omega (arith, symbol_of_cell_lt _ _ (low_2 l) (low_3 l)) ∙ sym (symbol_closed _ _ (legal_at (i * 4 + 2) (omega arith)) (legal_at (i * 4 + 3) (omega arith))))
  half_at i (suc (suc h)) l lh = absurd (omega arith)

  byte_at_lt : (i : ℕ) → i < n → byte_at cells i < 256
  unfolding byte_at
  byte_at_lt i l = omega (arith, symbol_of_cell_lt _ _ (low_0 l) (low_1 l), symbol_of_cell_lt _ _ (low_2 l) (low_3 l))

  pub bits_filled : (d : List ℕ) → d ≡ tabulate n (byte_at cells) → d ≡ to_bits qpsk cells
  unfolding qpsk cells_bit
  bits_filled d = bits_made qpsk cells d n (byte_at cells) (omega arith) byte_at_lt at
    where
      at : (i k : ℕ) → i < n → k < 8 → bit_of 8 (byte_at cells i) k ≡ cells_bit qpsk cells (i * 8 + k)
      at i k l lk =
          let w : k ≡ k / 4 * 4 + k % 4 = omega arith in
          let d : (i * 8 + k) / 4 ≡ i * 2 + k / 4 = omega arith in
          let m : (i * 8 + k) % 4 ≡ k % 4 = omega arith in
          ap (bit_of 8 (byte_at cells i)) w
          ∙ sym (half_bit (byte_at cells i) (k / 4) (k % 4) (omega arith) (omega arith))
          ∙ ap (λ s. bit_of 4 s (k % 4)) (half_at i (k / 4) l (omega arith))
          ∙ sym (ap₂ (λ g b. bit_of 4 (symbol_of qpsk (get_or cells (g * 2) 0) (get_or cells (g * 2 + 1) 0)) b) d m)

pub ruleset lows = (low_0, low_1, low_2, low_3)

-- ---- legal cells

-- As the code tests a byte: (I+3)/2 and (Q+3)/2 are 1 or 2.
tested : ℕ → Bool
tested v = not (eqb ((v / 4 + 1) / 2) 1) || not (eqb ((v % 4 + 1) / 2) 1)

-- Two tests are the same where they are as numbers.
abbrev one : Bool → ℕ
one b = cond b 1 0

same_test : (a b : Bool) → one a ≡ one b → a ≡ b
same_test true true e = refl
same_test true false e = absurd (omega arith)
same_test false true e = absurd (omega arith)
same_test false false e = refl

module _ (v : ℕ) (l : v < 256) where
  tested_is : tested v ≡ qpsk.illegal v
  unfolding tested qpsk illegal outer ordinal
  tested_is = same_test (tested v) (qpsk.illegal v) (agree 256 (λ b. one (tested b)) (λ b. one (qpsk.illegal b)) tt v l)

  -- One test after the other.
  pub tested_i : (v / 4 + 1) / 2 ≢ 1 → not (eqb ((v / 4 + 1) / 2) 1) ≡ qpsk.illegal v
  unfolding tested
  tested_i i = let n = ne_eqb ((v / 4 + 1) / 2) 1 i in simp n (simp n at tested_is)

  pub tested_q : (v / 4 + 1) / 2 ≡ 1 → not (eqb ((v % 4 + 1) / 2) 1) ≡ qpsk.illegal v
  unfolding tested
  tested_q i = simp (eq-eqb ((v / 4 + 1) / 2) 1 i) at tested_is
