-- Laws of framing and unframing: each undoes the other, overhead never touches payload, the count of differing cells, legal cells.
-- Assumes nothing.
use Rattle.std.specs.Prelude.{◌≡◌, refl, Bool, cond, List, ℕ, zero, suc, ◌+◌, ◌*◌, ◌/◌, ◌%◌, ◌<◌, ◌≤◌, eqb, leb, length, get_or, drop}
use Rattle.std.proofs.Math.Path.{sym, ap}
use Rattle.std.proofs.Common.{ap₂, ◌∙◌, arith, eq-eqb, ne_eqb, length-take, length-drop, ext_get_or, get_or-take, get_or-drop}
use Rattle.std.proofs.Math.Bool.{true, false}
use Rattle.std.proofs.Math.Decide.{ℕ_discrete}
use Rattle.bits.specs.ListLaws.{length_tabulate, get_d_tabulate}
use Rattle.bits.proofs.CountLaws.{count_none, count_zero, count_mono, differs_same, differs_eq, differs_le}
use Rattle.bits.proofs.TestLaws.{either, cond_yes, cond_no}
use Rattle.cells_spec.specs.Modulation.{Modulation}
use Rattle.cells_spec.specs.Cells.{overhead_rule, payload_rule, Legal}
use Rattle.frame_spec.specs.Frames.{is_overhead, overhead_before, payload_before, overhead_cells, payload_cells, overhead_start}
use Rattle.frame_spec.specs.Frames.{own_overhead, frame_byte, frame_at, framed, cell_rule, frame_rule, payload_cell, payload_at, unframed}
use Rattle.frame_spec.specs.Frames.{cell_differs, overhead_differs, differing}
use Rattle.frame_spec.proofs.LayoutLaws.{own_within}
use Rattle.frame_spec.proofs.PlaceLaws.{overhead_index_lt, payload_index_lt_lem, Carried, carried, payload_cell_of_lem}

-- ---- buffers by their cells

pub framed_length : (s : ℕ) (payload own : List ℕ) → length (framed s payload own) ≡ 7424
unfolding framed
framed_length s payload own = length_tabulate 7424 (frame_at s payload own)

pub unframed_length : (s : ℕ) (frame : List ℕ) → length (unframed s frame) ≡ payload_cells s * 2
unfolding unframed
unframed_length s frame = length_tabulate (payload_cells s * 2) (payload_at s frame)

cell_of_lem : (m h : ℕ) → h < 2 → (m * 2 + h) / 2 ≡ m
cell_of_lem m h l = omega arith

half_of_lem : (m h : ℕ) → h < 2 → (m * 2 + h) % 2 ≡ h
half_of_lem m h l = omega arith

pub framed_at : (s : ℕ) (payload own : List ℕ) (m h : ℕ) → m < 3712 → h < 2
    → get_or (framed s payload own) (m * 2 + h) 0 ≡ frame_byte s payload own m h
unfolding framed frame_at
framed_at s payload own m h lm lh =
    get_d_tabulate 7424 (frame_at s payload own) (m * 2 + h) 0 (omega arith) ∙ ap₂ (frame_byte s payload own) (cell_of_lem m h lh) (half_of_lem m h lh)

-- Payload cells hold the payload, whatever the overhead list is; overhead cells hold the overhead list.
pub framed_payload : (s : ℕ) (payload own : List ℕ) (m h : ℕ) → m < 3712 → h < 2 → is_overhead s m ≡ false
    → get_or (framed s payload own) (m * 2 + h) 0 ≡ get_or payload (payload_before s m * 2 + h) 0
unfolding frame_byte
framed_payload s payload own m h lm lh e = framed_at s payload own m h lm lh ∙ cond_no (is_overhead s m) _ _ e

pub framed_overhead : (s : ℕ) (payload own : List ℕ) (m h : ℕ) → m < 3712 → h < 2 → is_overhead s m ≡ true
    → get_or (framed s payload own) (m * 2 + h) 0 ≡ get_or own (overhead_before s m * 2 + h) 0
unfolding frame_byte
framed_overhead s payload own m h lm lh e = framed_at s payload own m h lm lh ∙ cond_yes (is_overhead s m) _ _ e

pub unframed_byte : (s : ℕ) (frame : List ℕ) (y h : ℕ) → y < payload_cells s → h < 2
    → get_or (unframed s frame) (y * 2 + h) 0 ≡ get_or frame (payload_cell s y * 2 + h) 0
unfolding unframed payload_at
unframed_byte s frame y h ly lh =
    get_d_tabulate (payload_cells s * 2) (payload_at s frame) (y * 2 + h) 0 (omega arith)
    ∙ ap₂ (λ k i. get_or frame (payload_cell s k * 2 + i) 0) (cell_of_lem y h lh) (half_of_lem y h lh)

-- The payload by cells of the frame: a payload cell comes out at its index.
pub unframed_at : (s : ℕ) (frame : List ℕ) (m h : ℕ) → m < 3712 → h < 2 → is_overhead s m ≡ false
    → get_or (unframed s frame) (payload_before s m * 2 + h) 0 ≡ get_or frame (m * 2 + h) 0
unframed_at s frame m h lm lh e =
    unframed_byte s frame (payload_before s m) h (payload_index_lt_lem s m lm e) lh
    ∙ ap (λ k. get_or frame (k * 2 + h) 0) (payload_cell_of_lem s m lm e)

-- Buffers of n cells are equal where their cells are.
by_cells : (a b : List ℕ) (n : ℕ) → length a ≡ n * 2 → length b ≡ n * 2
    → ((m h : ℕ) → m < n → h < 2 → get_or a (m * 2 + h) 0 ≡ get_or b (m * 2 + h) 0) → a ≡ b
by_cells a b n la lb same =
    ext_get_or 0 a b (la ∙ sym lb)
    (λ j l. let e : j / 2 * 2 + j % 2 ≡ j = omega arith in
    ap (λ k. get_or a k 0) (sym e) ∙ same (j / 2) (j % 2) (omega arith) (omega arith) ∙ ap (λ k. get_or b k 0) e)

-- ---- there and back

-- Unframing after framing gives the payload back.
pub unframed_framed : (s : ℕ) (payload own : List ℕ) → length payload ≡ payload_cells s * 2 → unframed s (framed s payload own) ≡ payload
unframed_framed s payload own lp =
    by_cells (unframed s (framed s payload own)) payload (payload_cells s) (unframed_length s (framed s payload own)) lp
    (λ y h ly lh. let c : Carried s y (payload_cell s y) = carried s y ly in
    unframed_byte s (framed s payload own) y h ly lh
    ∙ framed_payload s payload own (payload_cell s y) h c.inside lh c.payload
    ∙ ap (λ k. get_or payload (k * 2 + h) 0) c.index)

-- Overhead errors never touch payload: frames that agree on the payload cells give one payload.
pub overhead_never_payload : (s : ℕ) (f g : List ℕ)
    → ((m h : ℕ) → m < 3712 → h < 2 → is_overhead s m ≡ false → get_or f (m * 2 + h) 0 ≡ get_or g (m * 2 + h) 0)
    → unframed s f ≡ unframed s g
overhead_never_payload s f g same =
    by_cells (unframed s f) (unframed s g) (payload_cells s) (unframed_length s f) (unframed_length s g)
    (λ y h ly lh. let c : Carried s y (payload_cell s y) = carried s y ly in
    unframed_byte s f y h ly lh ∙ same (payload_cell s y) h c.inside lh c.payload ∙ sym (unframed_byte s g y h ly lh))

-- And whatever the overhead list is, framing puts the same payload cells.
pub payload_never_overhead : (s : ℕ) (payload own other : List ℕ) (m h : ℕ) → m < 3712 → h < 2 → is_overhead s m ≡ false
    → get_or (framed s payload own) (m * 2 + h) 0 ≡ get_or (framed s payload other) (m * 2 + h) 0
payload_never_overhead s payload own other m h lm lh e =
    framed_payload s payload own m h lm lh e ∙ sym (framed_payload s payload other m h lm lh e)

-- ---- the count of differing overhead cells

pub cell_differs_le : (a : List ℕ) (i : ℕ) (b : List ℕ) (k : ℕ) → cell_differs a i b k ≤ 1
unfolding cell_differs
cell_differs_le a i b k =
    either (λ v. v ≤ 1) (eqb (get_or a (i * 2) 0) (get_or b (k * 2) 0)) _ _ (differs_le (get_or a (i * 2 + 1) 0) (get_or b (k * 2 + 1) 0)) (omega arith)

-- Cells that are equal in both bytes do not differ, and the reverse.
pub cell_differs_same : (a : List ℕ) (i : ℕ) (b : List ℕ) (k : ℕ) → ((h : ℕ) → h < 2 → get_or a (i * 2 + h) 0 ≡ get_or b (k * 2 + h) 0)
    → cell_differs a i b k ≡ 0
unfolding cell_differs
cell_differs_same a i b k same =
    let x : get_or a (i * 2) 0 ≡ get_or b (k * 2) 0 = ap (λ n. get_or a n 0) (omega arith) ∙ same 0 (omega arith) ∙ ap (λ n. get_or b n 0) (omega arith) in
    cond_yes _ _ _ (eq-eqb (get_or a (i * 2) 0) (get_or b (k * 2) 0) x) ∙ differs_same _ _ (same 1 (omega arith))

pub cell_differs_eq : (a : List ℕ) (i : ℕ) (b : List ℕ) (k : ℕ) → cell_differs a i b k ≡ 0 → (h : ℕ) → h < 2
    → get_or a (i * 2 + h) 0 ≡ get_or b (k * 2 + h) 0
unfolding cell_differs
cell_differs_eq a i b k e = go (ℕ_discrete (get_or a (i * 2) 0) (get_or b (k * 2) 0))
  where
    go : Dec (get_or a (i * 2) 0 ≡ get_or b (k * 2) 0) → (h : ℕ) → h < 2 → get_or a (i * 2 + h) 0 ≡ get_or b (k * 2 + h) 0
    go (yes x) zero l = ap (λ n. get_or a n 0) (omega arith) ∙ x ∙ ap (λ n. get_or b n 0) (omega arith)
    go (yes x) (suc zero) l = differs_eq _ _ (sym (cond_yes _ _ _ (eq-eqb _ _ x)) ∙ e)
    go (yes x) (suc (suc h)) l = absurd (omega arith)
    go (no n) h l = absurd (omega (arith, sym (cond_no _ _ _ (ne_eqb _ _ n)) ∙ e))

-- A frame made with a list differs from that list in no overhead cell.
pub differing_framed : (s : ℕ) (payload own : List ℕ) → differing s (framed s payload own) own ≡ 0
unfolding differing overhead_differs
differing_framed s payload own =
    count_none 3712 (overhead_differs s (framed s payload own) own) (λ m l. at m l (is_overhead s m) refl)
  where
    at : (m : ℕ) → m < 3712 → (t : Bool) → is_overhead s m ≡ t
        → cond (is_overhead s m) (cell_differs (framed s payload own) m own (overhead_before s m)) 0 ≡ 0
    at m l true e =
        cond_yes (is_overhead s m) _ 0 e
        ∙ cell_differs_same (framed s payload own) m own (overhead_before s m) (λ h lh. framed_overhead s payload own m h l lh e)
    at m l false e = cond_no (is_overhead s m) (cell_differs (framed s payload own) m own (overhead_before s m)) 0 e

-- Where the count is 0, the overhead cells are those of the list.
pub differing_zero : (s : ℕ) (frame own : List ℕ) → differing s frame own ≡ 0 → (m h : ℕ) → m < 3712 → h < 2 → is_overhead s m ≡ true
    → get_or frame (m * 2 + h) 0 ≡ get_or own (overhead_before s m * 2 + h) 0
unfolding differing overhead_differs
differing_zero s frame own e m h lm lh t =
    cell_differs_eq frame m own (overhead_before s m)
    (sym (cond_yes (is_overhead s m) (cell_differs frame m own (overhead_before s m)) 0 t) ∙ count_zero 3712 (overhead_differs s frame own) e m lm)
    h lh

-- The count is at most the number of overhead cells: 222 or 126.
pub differing_le : (s : ℕ) (frame own : List ℕ) → differing s frame own ≤ overhead_cells s
unfolding differing overhead_differs overhead_cells overhead_before
differing_le s frame own =
    count_mono 3712 (overhead_differs s frame own) (λ i. cond (is_overhead s i) 1 0) (λ m l. at m (is_overhead s m))
  where
    at : (m : ℕ) (t : Bool) → cond t (cell_differs frame m own (overhead_before s m)) 0 ≤ cond t 1 0
    at m true = cell_differs_le frame m own (overhead_before s m)
    at m false = omega arith

-- Framing what was unframed gives a frame back that has the list's overhead cells; its payload cells in any case.
pub framed_unframed : (s : ℕ) (frame own : List ℕ) → length frame ≡ 7424 → differing s frame own ≡ 0
    → framed s (unframed s frame) own ≡ frame
framed_unframed s frame own lf e =
    by_cells (framed s (unframed s frame) own) frame 3712 (framed_length s (unframed s frame) own) lf (λ m h lm lh. at m h lm lh (is_overhead s m) refl)
  where
    at : (m h : ℕ) → m < 3712 → h < 2 → (t : Bool) → is_overhead s m ≡ t
        → get_or (framed s (unframed s frame) own) (m * 2 + h) 0 ≡ get_or frame (m * 2 + h) 0
    at m h lm lh true t = framed_overhead s (unframed s frame) own m h lm lh t ∙ sym (differing_zero s frame own e m h lm lh t)
    at m h lm lh false t = framed_payload s (unframed s frame) own m h lm lh t ∙ unframed_at s frame m h lm lh t

pub framed_unframed_payload : (s : ℕ) (frame own : List ℕ) (m h : ℕ) → m < 3712 → h < 2 → is_overhead s m ≡ false
    → get_or (framed s (unframed s frame) own) (m * 2 + h) 0 ≡ get_or frame (m * 2 + h) 0
framed_unframed_payload s frame own m h lm lh t = framed_payload s (unframed s frame) own m h lm lh t ∙ unframed_at s frame m h lm lh t

-- ---- a sub-frame's own part of the overhead list

pub own_length : (s : ℕ) (overhead : List ℕ) → s ≤ 47 → length overhead ≡ 12288 → length (own_overhead s overhead) ≡ overhead_cells s * 2
unfolding own_overhead
own_length s overhead l e = simp (length-take, length-drop) (omega (arith, own_within s l))

-- Cell k of a sub-frame's own list is cell `overhead_start s` + k of the whole list.
pub own_at : (s : ℕ) (overhead : List ℕ) (i : ℕ) → i < overhead_cells s * 2
    → get_or (own_overhead s overhead) i 0 ≡ get_or overhead (overhead_start s * 2 + i) 0
unfolding own_overhead
own_at s overhead i l =
    get_or-take (overhead_cells s * 2) (drop (overhead_start s * 2) overhead) i 0 l ∙ get_or-drop (overhead_start s * 2) overhead i 0

-- ---- legal cells

pub own_legal : (s : ℕ) (overhead : List ℕ) → s ≤ 47 → length overhead ≡ 12288 → Legal overhead_rule overhead
    → Legal overhead_rule (own_overhead s overhead)
unfolding overhead_rule
own_legal s overhead l e h =
    record {
      legal = λ k lk. let i : k < overhead_cells s * 2 = omega (arith, own_length s overhead l e) in
          ap (leb 16) (own_at s overhead k i) ∙ h.legal (overhead_start s * 2 + k) (omega (arith, own_within s l));
    }

-- A buffer of n cells whose every byte is legal, by a rule that goes by cells.
legal_cells : (rule : ℕ → ℕ → Bool) (a : List ℕ) (n : ℕ) → length a ≡ n * 2
    → ((m h : ℕ) → m < n → h < 2 → rule m (get_or a (m * 2 + h) 0) ≡ false)
    → Legal (λ j. rule (j / 2)) a
legal_cells rule a n la all =
    record { legal = λ j l. let e : j ≡ j / 2 * 2 + j % 2 = omega arith in ap (λ k. rule (j / 2) (get_or a k 0)) e ∙ all (j / 2) (j % 2) (omega arith) (omega arith) }

module _ (p : Modulation) (s : ℕ) where
  -- The rule of a frame at its overhead and payload cells.
  pub rule_overhead : (m v : ℕ) → is_overhead s m ≡ true → cell_rule p s m v ≡ leb 16 v
  unfolding cell_rule
  rule_overhead m v e = simp e

  pub rule_payload : (m v : ℕ) → is_overhead s m ≡ false → cell_rule p s m v ≡ p.illegal v
  unfolding cell_rule
  rule_payload m v e = simp e

  -- Legal cells in, legal cells out.
  pub framed_legal : (payload own : List ℕ) → length payload ≡ payload_cells s * 2 → length own ≡ overhead_cells s * 2
      → Legal (payload_rule p) payload → Legal overhead_rule own
      → Legal (frame_rule p s) (framed s payload own)
  unfolding frame_rule overhead_rule payload_rule
  framed_legal payload own lp lo hp ho =
      legal_cells (cell_rule p s) (framed s payload own) 3712 (framed_length s payload own) (λ m h lm lh. at m h lm lh (is_overhead s m) refl)
    where
      at : (m h : ℕ) → m < 3712 → h < 2 → (t : Bool) → is_overhead s m ≡ t
          → cell_rule p s m (get_or (framed s payload own) (m * 2 + h) 0) ≡ false
      at m h lm lh true t =
          rule_overhead m _ t ∙ ap (leb 16) (framed_overhead s payload own m h lm lh t) ∙ ho.legal (overhead_before s m * 2 + h) (omega (arith, overhead_index_lt s m lm t))
      at m h lm lh false t =
          rule_payload m _ t ∙ ap p.illegal (framed_payload s payload own m h lm lh t) ∙ hp.legal (payload_before s m * 2 + h) (omega (arith, payload_index_lt_lem s m lm t))

  -- A frame whose bytes are all legal overhead, and whose payload is legal, is legal.
  pub parts_legal : (frame : List ℕ) → length frame ≡ 7424 → Legal overhead_rule frame → Legal (payload_rule p) (unframed s frame)
      → Legal (frame_rule p s) frame
  unfolding frame_rule overhead_rule payload_rule
  parts_legal frame lf ho hp = legal_cells (cell_rule p s) frame 3712 lf (λ m h lm lh. at m h lm lh (is_overhead s m) refl)
    where
      at : (m h : ℕ) → m < 3712 → h < 2 → (t : Bool) → is_overhead s m ≡ t → cell_rule p s m (get_or frame (m * 2 + h) 0) ≡ false
      at m h lm lh true t = rule_overhead m _ t ∙ ho.legal (m * 2 + h) (omega arith)
      at m h lm lh false t =
          rule_payload m _ t ∙ ap p.illegal (sym (unframed_at s frame m h lm lh t))
          ∙ hp.legal (payload_before s m * 2 + h) (omega (arith, payload_index_lt_lem s m lm t, unframed_length s frame))

  -- The bytes of a legal frame's payload cells are legal.
  pub payload_cell_legal : (frame : List ℕ) → length frame ≡ 7424 → Legal (frame_rule p s) frame → (m h : ℕ) → m < 3712 → h < 2
      → is_overhead s m ≡ false
      → p.illegal (get_or frame (m * 2 + h) 0) ≡ false
  unfolding frame_rule
  payload_cell_legal frame lf hf m h lm lh e =
      sym (ap (λ k. cell_rule p s k (get_or frame (m * 2 + h) 0)) (cell_of_lem m h lh) ∙ rule_payload m _ e) ∙ hf.legal (m * 2 + h) (omega arith)

  pub unframed_legal : (frame : List ℕ) → length frame ≡ 7424 → Legal (frame_rule p s) frame → Legal (payload_rule p) (unframed s frame)
  unfolding payload_rule
  unframed_legal frame lf hf =
      legal_cells (λ y. p.illegal) (unframed s frame) (payload_cells s) (unframed_length s frame)
      (λ y h ly lh. let c : Carried s y (payload_cell s y) = carried s y ly in
      ap p.illegal (unframed_byte s frame y h ly lh) ∙ payload_cell_legal frame lf hf (payload_cell s y) h c.inside lh c.payload)
