-- Laws of the layout: each index that Frames.antt counts, in closed form; 222, 126, 3,490 and 3,586 cells; 6,144 and 172,032 in all.
-- Assumes nothing.
use Rattle.std.specs.Prelude.{◌≡◌, refl, Bool, true, false, cond, ◌≢◌, ℕ, zero, suc, ◌+◌, ◌*◌, ◌/◌, ◌%◌, ◌<◌, ◌≤◌}
use Rattle.std.proofs.Common.{sym, ◌∙◌, arith, eq-eqb, ne_eqb, lt-ltb, le-ltb}
use Rattle.std.proofs.Math.Bool.{or-true}
use Rattle.std.proofs.Math.Decide.{ℕ_discrete, dec_lt}
use Rattle.bits.specs.Count.{count}
use Rattle.bits.proofs.TestLaws.{cond_yes, cond_no}
use Rattle.cells_spec.specs.Modulation.{Modulation, cells_per_buffer, buffers_in}
use Rattle.cells_spec.proofs.ModulationLaws.{buffer_whole}
use Rattle.frame_spec.specs.Frames.{is_overhead, overhead_before, payload_before, overhead_cells, payload_cells, overhead_start}
use Rattle.frame_spec.specs.Frames.{payload_start}
use Rattle.frame_spec.specs.Layout.{edge, gap, payload_position}

-- ---- the edge and the gap

-- Sub-frame 0 and the others.
pub data First (s : ℕ) : Type 0 where
  zeroth : s ≡ 0 → edge s ≡ 110 → gap s ≡ 106 → First s
  other : s ≢ 0 → edge s ≡ 11 → gap s ≡ 10 → First s

pub which : (s : ℕ) → First s
unfolding edge gap
which s = go (ℕ_discrete s 0)
  where
    go : Dec (s ≡ 0) → First s
    go (yes e) = zeroth e (simp (eq-eqb s 0 e)) (simp (eq-eqb s 0 e))
    go (no n) = other n (simp (ne_eqb s 0 n)) (simp (ne_eqb s 0 n))

-- The gap is the edge but for the pilots below it.
pub gap_edge : (s : ℕ) → gap s + (edge s + 31) / 32 ≡ edge s
gap_edge s = go (which s)
  where
    go : First s → gap s + (edge s + 31) / 32 ≡ edge s
    go (zeroth z e g) = omega arith
    go (other z e g) = omega arith

pub edge_le : (s : ℕ) → edge s ≤ 110
edge_le s = go (which s)
  where
    go : First s → edge s ≤ 110
    go (zeroth z e g) = omega arith
    go (other z e g) = omega arith

-- ---- the three kinds of cells

pub data CellKind (s m : ℕ) : Type 0 where
  low : m < edge s → is_overhead s m ≡ true → CellKind s m
  pilot : edge s ≤ m → m % 32 ≡ 0 → is_overhead s m ≡ true → CellKind s m
  rest : edge s ≤ m → m % 32 ≢ 0 → is_overhead s m ≡ false → CellKind s m

pub low_is : (s m : ℕ) → First s → m < edge s → is_overhead s m ≡ true
unfolding is_overhead
low_is s m (zeroth z e g) h = let l : m < 110 = omega arith in simp (eq-eqb s 0 z, lt-ltb m 110 l, or-true)
low_is s m (other z e g) h = let l : m < 11 = omega arith in simp (lt-ltb m 11 l, or-true)

pub pilot_is : (s m : ℕ) → m % 32 ≡ 0 → is_overhead s m ≡ true
unfolding is_overhead
pilot_is s m e = simp (eq-eqb (m % 32) 0 e)

pub rest_is : (s m : ℕ) → First s → edge s ≤ m → m % 32 ≢ 0 → is_overhead s m ≡ false
unfolding is_overhead
rest_is s m (zeroth z e g) h n =
    let a : 11 ≤ m = omega arith in
    let b : 110 ≤ m = omega arith in
    simp (ne_eqb (m % 32) 0 n, le-ltb m 11 a, eq-eqb s 0 z, le-ltb m 110 b)
rest_is s m (other z e g) h n = let a : 11 ≤ m = omega arith in simp (ne_eqb (m % 32) 0 n, le-ltb m 11 a, ne_eqb s 0 z)

pub cell_kind : (s m : ℕ) → CellKind s m
cell_kind s m = go (dec_lt m (edge s)) (ℕ_discrete (m % 32) 0)
  where
    go : Dec (m < edge s) → Dec (m % 32 ≡ 0) → CellKind s m
    go (yes l) d = low l (low_is s m (which s) l)
    go (no l) (yes e) = pilot (omega arith) e (pilot_is s m e)
    go (no l) (no n) = rest (omega arith) n (rest_is s m (which s) (omega arith) n)

-- ---- the number of overhead cells before a cell

-- Up to the edge all cells count, and from there on the pilots.
pub record Counted (e m n : ℕ) : Type 0 where
  pub below : m ≤ e → n ≡ m
  pub above : e ≤ m → n + (e + 31) / 32 ≡ e + (m + 31) / 32

counted_more : {e m n : ℕ} (v : ℕ) → Counted e m n → (m < e → v ≡ 1) → (e ≤ m → m % 32 ≡ 0 → v ≡ 1) → (e ≤ m → m % 32 ≢ 0 → v ≡ 0)
    → Counted e (suc m) (n + v)
counted_more {e} {m} {n} v h a b c = go (dec_lt m e) (ℕ_discrete (m % 32) 0)
  where
    go : Dec (m < e) → Dec (m % 32 ≡ 0) → Counted e (suc m) (n + v)
    go (yes l) d =
        let p : n ≡ m = h.below (omega arith) in
        let q : v ≡ 1 = a l in
        record { below = λ k. omega arith; above = λ k. omega arith }
    go (no l) (yes z) =
        let p : n + (e + 31) / 32 ≡ e + (m + 31) / 32 = h.above (omega arith) in
        let q : v ≡ 1 = b (omega arith) z in
        record { below = λ k. absurd (omega arith); above = λ k. omega arith }
    go (no l) (no z) =
        let p : n + (e + 31) / 32 ≡ e + (m + 31) / 32 = h.above (omega arith) in
        let q : v ≡ 0 = c (omega arith) z in
        record { below = λ k. absurd (omega arith); above = λ k. omega arith }

pub counted : (s m : ℕ) → Counted (edge s) m (overhead_before s m)
unfolding overhead_before count
counted s zero = record { below = λ k. refl; above = λ k. omega arith }
counted s (suc m) =
    counted_more (cond (is_overhead s m) 1 0) (counted s m)
    (λ l. cond_yes (is_overhead s m) 1 0 (low_is s m (which s) l))
    (λ l z. cond_yes (is_overhead s m) 1 0 (pilot_is s m z))
    (λ l z. cond_no (is_overhead s m) 1 0 (rest_is s m (which s) l z))

pub overhead_low : (s m : ℕ) → m < edge s → overhead_before s m ≡ m
overhead_low s m l = (counted s m).below (omega arith)

pub overhead_pilot : (s m : ℕ) → edge s ≤ m → m % 32 ≡ 0 → overhead_before s m ≡ m / 32 + gap s
overhead_pilot s m l z = omega (arith, (counted s m).above l, gap_edge s)

-- ---- the number of payload cells before a cell

pub both_kinds : (s m : ℕ) → payload_before s m + overhead_before s m ≡ m
unfolding payload_before overhead_before count
both_kinds s zero = refl
both_kinds s (suc m) = go (is_overhead s m) (both_kinds s m)
  where
    go : (t : Bool) → payload_before s m + overhead_before s m ≡ m
        → payload_before s m + cond t 0 1 + (overhead_before s m + cond t 1 0) ≡ suc m
    go true e = omega arith
    go false e = omega arith

pub payload_rest : (s m : ℕ) → edge s ≤ m → m % 32 ≢ 0 → payload_before s m + (m / 32 + 1 + gap s) ≡ m
payload_rest s m l z = omega (arith, (counted s m).above l, gap_edge s, both_kinds s m)

-- ---- how many cells there are

pub overhead_cells_gap : (s : ℕ) → overhead_cells s ≡ gap s + 116
unfolding overhead_cells
overhead_cells_gap s = omega (arith, (counted s 3712).above (omega (arith, edge_le s)), gap_edge s)

pub cells_all : (s : ℕ) → payload_cells s + overhead_cells s ≡ 3712
unfolding overhead_cells payload_cells
cells_all s = both_kinds s 3712

pub edge_cells : (s : ℕ) → edge s ≤ overhead_cells s
edge_cells s = omega (arith, overhead_cells_gap s, gap_edge s, edge_le s)

-- "3,490 cells in sub-frame 0, 3,586 in each other"; "222 for sub-frame 0, then 126 each".
pub overhead_zeroth : overhead_cells 0 ≡ 222
unfolding gap
overhead_zeroth = overhead_cells_gap 0

pub overhead_other : (s : ℕ) → s ≢ 0 → overhead_cells s ≡ 126
unfolding gap
overhead_other s n = overhead_cells_gap s ∙ simp (ne_eqb s 0 n)

pub payload_zeroth : payload_cells 0 ≡ 3490
payload_zeroth = omega (arith, cells_all 0, overhead_zeroth)

pub payload_other : (s : ℕ) → s ≢ 0 → payload_cells s ≡ 3586
payload_other s n = omega (arith, cells_all s, overhead_other s n)

-- The numbers of sub-frame 0 and of the others together, as the code has them.
pub record Sizes (s e g o p : ℕ) : Type 0 where
  pub edge_is : e ≡ edge s
  pub gap_is : g ≡ gap s
  pub overhead_is : o ≡ overhead_cells s
  pub payload_is : p ≡ payload_cells s

pub sizes_zeroth : {s : ℕ} → s ≡ 0 → Sizes s 110 106 222 3490
unfolding edge gap
sizes_zeroth {s} z =
    let g : gap s ≡ 106 = simp (eq-eqb s 0 z) in
    record {
      edge_is = simp (eq-eqb s 0 z);
      gap_is = sym g;
      overhead_is = omega (arith, overhead_cells_gap s);
      payload_is = omega (arith, overhead_cells_gap s, cells_all s);
    }

pub sizes_other : {s : ℕ} → s ≢ 0 → Sizes s 11 10 126 3586
unfolding edge gap
sizes_other {s} z =
    let g : gap s ≡ 10 = simp (ne_eqb s 0 z) in
    record {
      edge_is = simp (ne_eqb s 0 z);
      gap_is = sym g;
      overhead_is = omega (arith, overhead_cells_gap s);
      payload_is = omega (arith, overhead_cells_gap s, cells_all s);
    }

-- ---- where a sub-frame starts

pub overhead_start_next : (s : ℕ) → overhead_start (suc s) ≡ overhead_start s + overhead_cells s
unfolding overhead_start count
overhead_start_next s = refl

pub overhead_start_closed : (t : ℕ) → overhead_start (suc t) ≡ 222 + 126 * t
unfolding overhead_start count
overhead_start_closed zero = omega (arith, overhead_zeroth)
overhead_start_closed (suc t) = omega (arith, overhead_start_closed t, overhead_other (suc t) (omega arith))

-- As the code has it.
pub overhead_start_zeroth : (s : ℕ) → s ≡ 0 → overhead_start s ≡ 0
unfolding overhead_start count
overhead_start_zeroth zero z = refl
overhead_start_zeroth (suc s) z = absurd (omega arith)

pub overhead_start_other : (s : ℕ) → s ≢ 0 → overhead_start s ≡ s * 126 + 96
overhead_start_other zero z = absurd (z refl)
overhead_start_other (suc s) z = omega (arith, overhead_start_closed s)

-- A sub-frame's part of the overhead list ends inside it.
pub own_within : (s : ℕ) → s ≤ 47 → overhead_start s + overhead_cells s ≤ 6144
own_within s l = omega (arith, overhead_start_next s, overhead_start_closed s)

pub payload_start_closed : (t : ℕ) → payload_start (suc t) ≡ 3490 + 3586 * t
unfolding payload_start count
payload_start_closed zero = omega (arith, payload_zeroth)
payload_start_closed (suc t) = omega (arith, payload_start_closed t, payload_other (suc t) (omega arith))

-- "6,144 cells" of overhead and "172,032 in all" of payload.
pub overhead_all : overhead_start 48 ≡ 6144
overhead_all = overhead_start_closed 47

pub payload_all : payload_start 48 ≡ 172032
payload_all = payload_start_closed 47

-- "eight buffers" in 16-QAM: the buffers of a super-frame fill its payload cells, in any profile.
pub buffers_fill : (p : Modulation) → payload_start 48 ≡ buffers_in p 1 * cells_per_buffer p
unfolding buffers_in
buffers_fill p = omega (arith, payload_all, buffer_whole p)

-- ---- the cell of a payload cell

-- Payload cell y of sub-frame s stands at `payload_position s y`.
pub record Stands (s y m : ℕ) : Type 0 where
  pub inside : m < 3712
  pub above : edge s ≤ m
  pub plain : m % 32 ≢ 0
  pub index : payload_before s m ≡ y

-- In blocks of 31: the place of number k among those that no multiple of 32 is.
skip : ℕ → ℕ
skip k = k / 31 * 32 + 1 + k % 31

skip_mod : (k : ℕ) → skip k % 32 ≡ 1 + k % 31
unfolding skip
skip_mod k = omega arith

skip_div : (k : ℕ) → skip k / 32 ≡ k / 31
unfolding skip
skip_div k = omega arith

skip_index : (k : ℕ) → k + (skip k / 32 + 1) ≡ skip k
skip_index k = omega (arith, skip_div k, skip_mod k)

skip_edge : (s k : ℕ) → gap s ≤ k → edge s ≤ skip k
skip_edge s k l = go (which s)
  where
    go : First s → edge s ≤ skip k
    go (zeroth z e g) = omega (arith, skip_div k, skip_mod k)
    go (other z e g) = omega (arith, skip_div k, skip_mod k)

pub payload_position_stands : (s y : ℕ) → y < payload_cells s → Stands s y (payload_position s y)
unfolding payload_position skip
payload_position_stands s y l =
    record {
      inside = omega (arith, skip_div k, skip_mod k, cells_all s, overhead_cells_gap s);
      above = above;
      plain = plain;
      index = omega (arith, skip_index k, payload_rest s (skip k) above plain);
    }
  where
    k : ℕ
    k = y + gap s

    above : edge s ≤ skip k
    above = skip_edge s k (omega arith)

    plain : skip k % 32 ≢ 0
    plain = omega (arith, skip_mod k)

-- Each payload cell of a sub-frame is the position of its index.
pub payload_position_of : (s m : ℕ) → edge s ≤ m → m % 32 ≢ 0 → payload_position s (payload_before s m) ≡ m
unfolding payload_position
payload_position_of s m l z = omega (arith, payload_rest s m l z)
