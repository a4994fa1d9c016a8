-- Laws of places: the cell that carries each payload cell, of a sub-frame and of a super-frame, both ways.
-- Assumes nothing.
use Rattle.std.specs.Prelude.{◌≡◌, refl, Bool, true, false, not, ◌&&◌, ◌≢◌, ℕ, zero, suc, ◌+◌, ◌-◌, ◌/◌, ◌%◌, ◌<◌, ◌≤◌, eqb, ltb}
use Rattle.std.proofs.Common.{sym, ap, ◌∙◌, true≢false, arith, eq-eqb, ne_eqb, lt-ltb, le-ltb}
use Rattle.std.proofs.Math.Decide.{ℕ_discrete, dec_lt}
use Rattle.bits.specs.Count.{count}
use Rattle.bits.specs.LeastLaws.{least_is}
use Rattle.frame_spec.specs.Frames.{is_overhead, overhead_before, payload_before, overhead_cells, payload_cells, payload_start, carries}
use Rattle.frame_spec.specs.Frames.{payload_cell, sub_frame_of, cell_of}
use Rattle.frame_spec.specs.Layout.{edge, payload_position}
use Rattle.frame_spec.proofs.LayoutLaws.{CellKind, low, pilot, rest, cell_kind, rest_is, which, overhead_low, overhead_pilot}
use Rattle.frame_spec.proofs.LayoutLaws.{edge_cells, payload_rest, payload_zeroth, cells_all, overhead_cells_gap, Stands}
use Rattle.frame_spec.proofs.LayoutLaws.{payload_position_stands, payload_position_of, payload_start_closed}

-- ---- overhead cells of a sub-frame

-- The index of an overhead cell is below the number of overhead cells.
pub overhead_index_lt : (s m : ℕ) → m < 3712 → is_overhead s m ≡ true → overhead_before s m < overhead_cells s
overhead_index_lt s m l e = go (cell_kind s m)
  where
    go : CellKind s m → overhead_before s m < overhead_cells s
    go (low k t) = omega (arith, overhead_low s m k, edge_cells s)
    go (pilot k z t) = omega (arith, overhead_pilot s m k z, overhead_cells_gap s)
    go (rest k z t) = let c : ◌≡◌ {A = Bool} true false = sym e ∙ t in absurd (true≢false c)

-- ---- payload cells of a sub-frame

-- A payload cell is no pilot and not below the edge.
pub record Plain (s m : ℕ) : Type 0 where
  pub above : edge s ≤ m
  pub off : m % 32 ≢ 0

pub plain : (s m : ℕ) → is_overhead s m ≡ false → Plain s m
plain s m e = go (cell_kind s m)
  where
    clash : is_overhead s m ≡ true → Plain s m
    clash t = let z : ◌≡◌ {A = Bool} true false = sym t ∙ e in absurd (true≢false z)

    go : CellKind s m → Plain s m
    go (low l t) = clash t
    go (pilot l z t) = clash t
    go (rest l z t) = record { above = l; off = z }

-- Its index is below the number of payload cells.
pub payload_index_lt_lem : (s m : ℕ) → m < 3712 → is_overhead s m ≡ false → payload_before s m < payload_cells s
payload_index_lt_lem s m l e =
    let p : Plain s m = plain s m e in
    omega (arith, payload_rest s m p.above p.off, cells_all s, overhead_cells_gap s)

-- The cell that carries payload cell y is `payload_position s y`.
carries_position : (s y : ℕ) → y < payload_cells s → carries s y (payload_position s y) ≡ true
unfolding carries
carries_position s y l =
    let h : Stands s y (payload_position s y) = payload_position_stands s y l in
    simp (rest_is s (payload_position s y) (which s) h.above h.plain, eq-eqb (payload_before s (payload_position s y)) y h.index)

carries_none : (s y k : ℕ) → k < payload_position s y → carries s y k ≡ false
unfolding carries
carries_none s y k l = go (is_overhead s k) refl (ℕ_discrete (payload_before s k) y)
  where
    go : (t : Bool) → is_overhead s k ≡ t → Dec (payload_before s k ≡ y) → not (is_overhead s k) && eqb (payload_before s k) y ≡ false
    go true e d = simp e
    go false e (yes i) =
        let p : Plain s k = plain s k e in
        let same : payload_position s y ≡ k = ap (payload_position s) (sym i) ∙ payload_position_of s k p.above p.off in
        absurd (omega arith)
    go false e (no n) = simp (e, ne_eqb (payload_before s k) y n)

pub payload_cell_position : (s y : ℕ) → y < payload_cells s → payload_cell s y ≡ payload_position s y
unfolding payload_cell
payload_cell_position s y l =
    least_is 3712 (carries s y) (payload_position s y) (payload_position_stands s y l).inside (carries_position s y l) (carries_none s y)

-- Each payload cell of a sub-frame stands at one cell of it, which carries it.
pub record Carried (s y m : ℕ) : Type 0 where
  pub inside : m < 3712
  pub payload : is_overhead s m ≡ false
  pub index : payload_before s m ≡ y

pub carried : (s y : ℕ) → y < payload_cells s → Carried s y (payload_cell s y)
carried s y l =
    let h : Stands s y (payload_position s y) = payload_position_stands s y l in
    rw (payload_cell_position s y l) (record { inside = h.inside; payload = rest_is s (payload_position s y) (which s) h.above h.plain; index = h.index })

-- Each cell that carries payload is the cell of its index.
pub payload_cell_of_lem : (s m : ℕ) → m < 3712 → is_overhead s m ≡ false → payload_cell s (payload_before s m) ≡ m
payload_cell_of_lem s m l e =
    let p : Plain s m = plain s m e in
    payload_cell_position s (payload_before s m) (payload_index_lt_lem s m l e) ∙ payload_position_of s m p.above p.off

-- ---- payload cells of a super-frame

pub payload_start_next : (s : ℕ) → payload_start (suc s) ≡ payload_start s + payload_cells s
unfolding payload_start count
payload_start_next s = refl

payload_start_mono : (k s : ℕ) → k < s → payload_start (suc k) ≤ payload_start s
payload_start_mono k zero l = absurd (omega arith)
payload_start_mono k (suc t) l = omega (arith, payload_start_closed k, payload_start_closed t)

-- The sub-frame of payload cell x is the one whose payload cells x is among.
pub sub_frame_of_is : (s x : ℕ) → s < 48 → payload_start s ≤ x → x < payload_start (suc s) → sub_frame_of x ≡ s
unfolding sub_frame_of
sub_frame_of_is s x l a b =
    least_is 48 (λ t. ltb x (payload_start (suc t))) s l (lt-ltb x (payload_start (suc s)) b)
    (λ k lk. le-ltb x (payload_start (suc k)) (omega (arith, payload_start_mono k s lk)))

-- Payload cell x of a super-frame stands at cell m of sub-frame s.
pub record PayloadCellAt (x s m : ℕ) : Type 0 where
  pub sub_frame_lem : s < 48
  pub inside : m < 3712
  pub payload : is_overhead s m ≡ false
  pub index : payload_start s + payload_before s m ≡ x

-- Every payload cell of a super-frame stands at one sub-frame and cell ..
pub located : (x : ℕ) → x < 172032 → PayloadCellAt x (sub_frame_of x) (cell_of x)
unfolding cell_of
located x l = go (dec_lt x 3490)
  where
    within : (s : ℕ) → s < 48 → payload_start s ≤ x → x < payload_start (suc s)
        → PayloadCellAt x (sub_frame_of x) (payload_cell (sub_frame_of x) (x - payload_start (sub_frame_of x)))
    within s ls a b =
        let c : Carried s (x - payload_start s) (payload_cell s (x - payload_start s)) = carried s (x - payload_start s) (omega (arith, payload_start_next s)) in
        rw (sub_frame_of_is s x ls a b) (record { sub_frame_lem = ls; inside = c.inside; payload = c.payload; index = omega (arith, c.index) })

    go : Dec (x < 3490) → PayloadCellAt x (sub_frame_of x) (payload_cell (sub_frame_of x) (x - payload_start (sub_frame_of x)))
    go (yes h) = within 0 (omega arith) (omega (arith, payload_start_next 0, payload_start_closed 0, payload_zeroth)) (omega (arith, payload_start_closed 0))
    go (no h) =
        within (suc ((x - 3490) / 3586)) (omega arith) (omega (arith, payload_start_closed ((x - 3490) / 3586))) (omega (arith, payload_start_closed (suc ((x - 3490) / 3586))))

-- .. and every payload cell of every sub-frame carries one payload cell of the super-frame.
pub locates : (s m : ℕ) → s < 48 → m < 3712 → is_overhead s m ≡ false
    → (payload_start s + payload_before s m < 172032) × (sub_frame_of (payload_start s + payload_before s m) ≡ s) × (cell_of (payload_start s + payload_before s m) ≡ m)
unfolding cell_of
locates s m ls lm e = (total, sub, rw (sub, offset) (payload_cell_of_lem s m lm e))
  where
    x : ℕ
    x = payload_start s + payload_before s m

    next : x < payload_start (suc s)
    next = omega (arith, payload_start_next s, payload_index_lt_lem s m lm e)

    sub : sub_frame_of x ≡ s
    sub = sub_frame_of_is s x ls (omega arith) next

    total : x < 172032
    total = omega (arith, next, payload_start_closed s)

    offset : x - payload_start s ≡ payload_before s m
    offset = omega arith
