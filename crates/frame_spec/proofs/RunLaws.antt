-- Laws for the workers that go by runs: a sub-frame is 116 groups of a pilot and 31 other cells, and past the edge those carry payload.
-- Assumes nothing.
use Rattle.std.specs.Prelude.{◌≡◌, List, ◌≢◌, length, set, take, drop}
use Rattle.std.proofs.Math.Path.{refl, ap, ap₂}
use Rattle.std.proofs.Common.{sym, ◌∙◌, length-take, length-drop, get_or-take, get_or-drop, length-set, get_or-set_same, get_or-set_other}
use Prim.Native.Nat.{ℕ, zero, suc, ◌+◌, ◌-◌, ◌*◌, ◌/◌, ◌%◌, ◌<◌, ◌≤◌}
use native.Mathlib.Omega.{arith}
use borrow.Rule.Slice.PartMut.{put_mid}
use Rattle.std.proofs.Math.ListN.{get_or}
use Rattle.bits.specs.Lists.{tabulate}
use Rattle.bits.specs.ListLaws.{length_tabulate, get_d_tabulate, is_tabulate, tabulate_ext}
use Rattle.bits.specs.Filling.{Filling, fill_none, fill_part, fill_done}
use Rattle.frame_spec.specs.Frames.{overhead_cells, payload_cells, frame_byte, frame_at, framed, payload_at, unframed}
use Rattle.frame_spec.specs.Layout.{edge, gap}
use Rattle.frame_spec.proofs.LayoutLaws.{First, zeroth, other, which, edge_le, cells_all, overhead_cells_gap}
use Rattle.frame_spec.proofs.ByteLaws.{byte_low, byte_pilot, byte_rest, payload_read}
use Rattle.frame_spec.specs.RunLaws.{group_at, Groups, Runs}

-- What was copied number by number is what was there.
pub copied : (n : ℕ) (f : ℕ → ℕ) (t d : List ℕ) → d ≡ tabulate n (λ k. get_or t k 0) → t ≡ tabulate n f → d ≡ tabulate n f
copied n f t d e p = e ∙ tabulate_ext n (λ k. get_or t k 0) f (λ k l. ap (λ z. get_or z k 0) p ∙ get_d_tabulate n f k 0 l)

-- The same of a part that was copied whole.
pub part_copied : (from : List ℕ) (at n : ℕ) → at + n ≤ length from → take n (drop at from) ≡ tabulate n (λ k. get_or from (at + k) 0)
part_copied from at n l =
    is_tabulate 0 (take n (drop at from)) n (λ k. get_or from (at + k) 0) (simp (length-take, length-drop) (omega arith))
    (λ k lk. get_or-take n (drop at from) k 0 lk ∙ get_or-drop at from k 0)

-- The payload before a group past the edge.
pub run_from : (s i g : ℕ) → g ≡ gap s → edge s ≤ i * 32 → (g + 1) * 2 ≤ i * 62
run_from s i g e l = go (which s)
  where
    go : First s → (g + 1) * 2 ≤ i * 62
    go (zeroth z p q) = omega arith
    go (other z p q) = omega arith

module _ (s : ℕ) (payload own : List ℕ) (i g : ℕ) (gis : g ≡ gap s) (l : edge s ≤ i * 32) where
  group_pilot : (k : ℕ) → k < 2 → get_or own ((i + g) * 2 + k) 0 ≡ group_at s payload own i k
  unfolding frame_at
  group_pilot k lk =
      let d : i * 32 ≡ (i * 64 + k) / 2 = omega arith in
      let r : k ≡ (i * 64 + k) % 2 = omega arith in
      let q : i ≡ i * 32 / 32 = omega arith in
      ap (λ n. get_or own ((n + g) * 2 + k) 0) q
      ∙ byte_pilot s payload own (i * 32) k (edge s) refl g gis l (omega arith)
      ∙ ap₂ (frame_byte s payload own) d r

  group_run : (k : ℕ) → 2 ≤ k → k < 64 → get_or payload (i * 62 - (g + 1) * 2 + k) 0 ≡ group_at s payload own i k
  unfolding frame_at
  group_run k a b =
      let q : (i * 64 + k) / 2 / 32 ≡ i = omega arith in
      let n : i * 62 - (g + 1) * 2 + k ≡ ((i * 64 + k) / 2 - ((i * 64 + k) / 2 / 32 + 1 + g)) * 2 + (i * 64 + k) % 2 = omega (arith, run_from s i g gis l) in
      ap (λ m. get_or payload m 0) n
      ∙ byte_rest s payload own ((i * 64 + k) / 2) ((i * 64 + k) % 2) (edge s) refl g gis (omega arith) (omega arith)

  pub run_inside : i < 116 → length payload ≡ payload_cells s * 2 → i * 62 - (g + 1) * 2 + 64 ≤ length payload
  run_inside li lp = omega (arith, run_from s i g gis l, cells_all s, overhead_cells_gap s)

  -- The run is put with the cell before it, and then the pilot in that cell's place.
  pub group_put : (d : List ℕ) → d ≡ tabulate 64 (λ k. get_or payload (i * 62 - (g + 1) * 2 + k) 0)
      → set (set d 0 (get_or own ((i + g) * 2) 0)) 1 (get_or own ((i + g) * 2 + 1) 0) ≡ tabulate 64 (group_at s payload own i)
  group_put d ed =
      is_tabulate 0 (set (set d 0 u) 1 v) 64 (group_at s payload own i) (length-set (set d 0 u) 1 v ∙ length-set d 0 u ∙ long) byte
    where
      u : ℕ
      u = get_or own ((i + g) * 2) 0

      v : ℕ
      v = get_or own ((i + g) * 2 + 1) 0

      long : length d ≡ 64
      long = ap length ed ∙ length_tabulate 64 (λ k. get_or payload (i * 62 - (g + 1) * 2 + k) 0)

      byte : (k : ℕ) → k < 64 → get_or (set (set d 0 u) 1 v) k 0 ≡ group_at s payload own i k
      byte zero lk =
          let z : (i + g) * 2 ≡ (i + g) * 2 + 0 = omega arith in
          get_or-set_other (set d 0 u) 1 0 v 0 (omega arith) ∙ get_or-set_same d 0 u 0 (omega (arith, long)) ∙ ap (λ n. get_or own n 0) z ∙ group_pilot 0 (omega arith)
      byte (suc zero) lk = get_or-set_same (set d 0 u) 1 v 0 (omega (arith, length-set d 0 u, long)) ∙ group_pilot 1 (omega arith)
      byte (suc (suc k)) lk =
          get_or-set_other (set d 0 u) 1 (suc (suc k)) v 0 (omega arith) ∙ get_or-set_other d 0 (suc (suc k)) u 0 (omega arith)
          ∙ ap (λ z. get_or z (suc (suc k)) 0) ed
          ∙ get_d_tabulate 64 (λ n. get_or payload (i * 62 - (g + 1) * 2 + n) 0) (suc (suc k)) 0 lk ∙ group_run (suc (suc k)) (omega arith) lk

pub ruleset by_groups = (run_from, run_inside, group_put)

-- The first m numbers of a buffer were lent to a call that filled them with f's.
fill_first : {f : ℕ → ℕ} {n : ℕ} (m : ℕ) (d ys : List ℕ) → length d ≡ n → m ≤ n → ys ≡ tabulate m f → Filling f n m (put_mid 0 (m - 0) d ys)
fill_first {f} {n} m d ys ld l e =
    let z : 0 + m ≡ m = omega arith in
    let u : m - 0 ≡ m = omega arith in
    rw u (rw z at (fill_part m ys (fill_none f n d ld) (omega arith) (e ∙ tabulate_ext m f (λ k. f (0 + k)) (λ k lk. ap f (omega arith)))))

-- Below the edge stands overhead, and from there to the first whole group payload.
module _ (s : ℕ) (payload own : List ℕ) (w : ℕ) (is : w + gap s ≡ edge s) where
  edge_overhead : (j : ℕ) → j < edge s * 2 → get_or own (0 + j) 0 ≡ frame_at s payload own j
  unfolding frame_at
  edge_overhead j l =
      let n : 0 + j ≡ j / 2 * 2 + j % 2 = omega arith in
      ap (λ k. get_or own k 0) n ∙ byte_low s payload own (j / 2) (j % 2) (edge s) refl (omega arith)

  edge_payload : (j : ℕ) → j < w * 64 - edge s * 2 → get_or payload (0 + j) 0 ≡ frame_at s payload own (edge s * 2 + j)
  unfolding frame_at
  edge_payload j l =
      ap (λ k. get_or payload k 0) (at (which s))
      ∙ byte_rest s payload own m ((edge s * 2 + j) % 2) (edge s) refl (gap s) refl (omega arith) (off (which s))
    where
      m : ℕ
      m = (edge s * 2 + j) / 2

      at : First s → 0 + j ≡ (m - (m / 32 + 1 + gap s)) * 2 + (edge s * 2 + j) % 2
      at (zeroth z p q) = omega arith
      at (other z p q) = omega arith

      off : First s → m % 32 ≢ 0
      off (zeroth z p q) = omega arith
      off (other z p q) = omega arith

  pub edge_inside : (e : ℕ) → e ≤ overhead_cells s → length own ≡ overhead_cells s * 2 → 0 + e * 2 ≤ length own
  edge_inside e l lo = omega arith

  pub edge_room : (e : ℕ) → e ≡ edge s → w ≤ 4 → length payload ≡ payload_cells s * 2 → 0 + (w * 64 - e * 2) ≤ length payload
  edge_room e es lw lp = omega (arith, cells_all s, overhead_cells_gap s, edge_le s)

  pub groups_none : (e : ℕ) (d xs ys : List ℕ) → length d ≡ 7424 → e ≡ edge s → edge s ≤ w * 32 → w ≤ 4
      → xs ≡ tabulate (e * 2) (λ k. get_or own (0 + k) 0) → ys ≡ tabulate (w * 64 - e * 2) (λ k. get_or payload (0 + k) 0)
      → Groups s payload own w (put_mid (e * 2) (w * 64 - e * 2) (put_mid 0 (e * 2 - 0) d xs) ys)
  groups_none e d xs ys ld es l lw p q =
      let n : edge s * 2 + (w * 64 - edge s * 2) ≡ w * 64 = omega arith in
      rw es
      (record {
        turns = omega arith;
        past = l;
        filled = rw n at
            (fill_part (w * 64 - edge s * 2) ys
            (fill_first (edge s * 2) d xs ld (omega arith) (rw es at p ∙ tabulate_ext (edge s * 2) (λ k. get_or own (0 + k) 0) (frame_at s payload own) edge_overhead))
            (omega arith)
            (rw es at q ∙ tabulate_ext (w * 64 - edge s * 2) (λ k. get_or payload (0 + k) 0) (λ k. frame_at s payload own (edge s * 2 + k)) edge_payload));
      })

pub groups_next : {s : ℕ} {payload own d : List ℕ} {i : ℕ} (a e : ℕ) (ys : List ℕ) → Groups s payload own i d → i < 116 → a ≡ i * 64
    → e ≡ a + 64
    → ys ≡ tabulate 64 (group_at s payload own i) → Groups s payload own (i + 1) (put_mid a (e - a) d ys)
groups_next {s} {payload} {own} {d} {i} a e ys h l ea ee t =
    let q : e - a ≡ 64 = omega arith in
    let n : (i + 1) * 64 ≡ i * 64 + 64 = omega arith in
    record { turns = omega arith; past = omega (arith, h.past); filled = rw (q, n, ea) (fill_part 64 ys h.filled (omega arith) t) }

pub groups_done : {s : ℕ} {payload own d : List ℕ} {i : ℕ} → Groups s payload own i d → 116 ≤ i → d ≡ framed s payload own
unfolding framed
groups_done h l = fill_done h.filled (omega arith)

pub ruleset by_framing = (edge_inside, edge_room, groups_none, groups_next, groups_done)

-- ---- a run of the payload

-- Past the edge, a run of 62 bytes of a frame is one of its payload.
pub run_payload : (s : ℕ) (frame : List ℕ) (i k : ℕ) → edge s ≤ i * 32 → i < 116 → k < 62
    → get_or frame (i * 64 + 2 + k) 0 ≡ payload_at s frame (i * 62 - gap s * 2 + k)
run_payload s frame i k l li lk =
    let b : (gap s + 1) * 2 ≤ i * 62 = run_from s i (gap s) refl l in
    let j : (i * 62 - gap s * 2 + k) / 2 + gap s ≡ i * 31 + k / 2 = omega arith in
    let h : (i * 62 - gap s * 2 + k) % 2 ≡ k % 2 = omega arith in
    let q : (i * 31 + k / 2) / 31 ≡ i = omega arith in
    let r : (i * 31 + k / 2) % 31 ≡ k / 2 = omega arith in
    let n : i * 64 + 2 + k ≡ (i * 32 + 1 + k / 2) * 2 + k % 2 = omega arith in
    ap (λ m. get_or frame m 0) n
    ∙ ap₂ (λ a c. get_or frame ((a * 32 + 1 + c) * 2 + k % 2) 0) (sym q) (sym r)
    ∙ ap₂ (λ y c. get_or frame ((y / 31 * 32 + 1 + y % 31) * 2 + c) 0) (sym j) (sym h)
    ∙ payload_read s frame (i * 62 - gap s * 2 + k) (gap s) (omega (arith, cells_all s, overhead_cells_gap s)) refl

-- From the edge to the first whole group all is payload.
module _ (s : ℕ) (frame : List ℕ) (w : ℕ) (is : w + gap s ≡ edge s) where
  rest_payload : (j : ℕ) → j < w * 64 - edge s * 2 → get_or frame (edge s * 2 + j) 0 ≡ payload_at s frame j
  rest_payload j l = ap (λ m. get_or frame m 0) (at (which s)) ∙ payload_read s frame j (gap s) (within (which s)) refl
    where
      at : First s → edge s * 2 + j ≡ ((j / 2 + gap s) / 31 * 32 + 1 + (j / 2 + gap s) % 31) * 2 + j % 2
      at (zeroth z p q) = omega arith
      at (other z p q) = omega arith

      within : First s → j < payload_cells s * 2
      within (zeroth z p q) = omega (arith, cells_all s, overhead_cells_gap s)
      within (other z p q) = omega (arith, cells_all s, overhead_cells_gap s)

  pub rest_room : (e : ℕ) (d : List ℕ) → e ≡ edge s → w ≤ 4 → length d ≡ payload_cells s * 2 → w * 64 - e * 2 ≤ length d
  rest_room e d es lw ld = omega (arith, cells_all s, overhead_cells_gap s, edge_le s)

  pub runs_none : (e : ℕ) (d ys : List ℕ) → length d ≡ payload_cells s * 2 → e ≡ edge s → edge s ≤ w * 32 → w ≤ 4
      → ys ≡ tabulate (w * 64 - e * 2) (λ k. get_or frame (e * 2 + k) 0) → Runs s frame w (put_mid 0 (w * 64 - e * 2 - 0) d ys)
  runs_none e d ys ld es l lw q =
      let n : w * 64 - edge s * 2 ≡ w * 62 - gap s * 2 = omega arith in
      rw es
      (record {
        turns = omega arith;
        past = l;
        filled = rw (sym n)
            (fill_first (w * 64 - edge s * 2) d ys ld (omega (arith, rest_room (edge s) d refl lw ld))
            (rw es at q ∙ tabulate_ext (w * 64 - edge s * 2) (λ k. get_or frame (edge s * 2 + k) 0) (payload_at s frame) rest_payload));
      })

module _ {s : ℕ} {frame d : List ℕ} {i : ℕ} (g : ℕ) (h : Runs s frame i d) (gs : g ≡ gap s) where
  pub runs_from : g * 2 ≤ i * 62
  runs_from = omega (arith, run_from s i (gap s) refl h.past)

  pub runs_room : i < 116 → i * 62 - g * 2 + 62 ≤ length d
  runs_room l = omega (arith, runs_from, h.filled.long, cells_all s, overhead_cells_gap s)

pub runs_next : {s : ℕ} {frame d : List ℕ} {i : ℕ} (g a e : ℕ) (ys : List ℕ) → Runs s frame i d → i < 116 → g ≡ gap s → a ≡ i * 62 - g * 2
    → e ≡ a + 62
    → ys ≡ tabulate 62 (λ k. get_or frame (i * 64 + 2 + k) 0) → Runs s frame (i + 1) (put_mid a (e - a) d ys)
runs_next {s} {frame} {d} {i} g a e ys h l eg ea ee t =
    let p : a ≡ i * 62 - gap s * 2 = omega arith in
    let q : e - a ≡ 62 = omega arith in
    let n : (i + 1) * 62 - gap s * 2 ≡ a + 62 = omega (arith, run_from s i (gap s) refl h.past) in
    record {
      turns = omega arith;
      past = omega (arith, h.past);
      filled = rw (q, n)
          (fill_part 62 ys (rw (sym p) at h.filled) (omega (arith, cells_all s, overhead_cells_gap s, run_from s i (gap s) refl h.past))
          (t ∙ tabulate_ext 62 (λ k. get_or frame (i * 64 + 2 + k) 0) (λ k. payload_at s frame (a + k))
          (λ k lk. run_payload s frame i k h.past l lk ∙ ap (λ m. payload_at s frame (m + k)) (sym p))));
    }

pub runs_done : {s : ℕ} {frame d : List ℕ} {i : ℕ} → Runs s frame i d → 116 ≤ i → d ≡ unframed s frame
unfolding unframed
runs_done {s} {frame} {d} {i} h l = fill_done h.filled (omega (arith, cells_all s, overhead_cells_gap s, h.turns))

pub ruleset by_runs = (rest_room, runs_none, runs_from, runs_room, runs_next, runs_done)
