-- Laws of the calls: what an accepted one gives, what a refused one leaves, and each undoing the other.
-- Assumes nothing.
use Rattle.std.specs.Prelude.{◌≡◌, refl, Bool, None, List, ◌∷◌, ℕ, ◌*◌, ◌<◌, ◌≤◌, length, get_or}
use Rattle.std.proofs.Common.{ap, sym, ◌∙◌}
use Rattle.calls.specs.Answers.{Answer}
use Rattle.std.specs.Prelude.{Ok, Err}
use Rattle.calls.specs.declared.Refusal.TheVariants.{OffGrid}
use Rattle.calls.specs.Answers.{TurnedBack}
use Rattle.calls.specs.Calls.{after, Test, verdict}
use Rattle.calls.proofs.CallLaws.{cases, is_off_grid, on_grid, call_keeps}
use Rattle.cells_spec.specs.Modulation.{Modulation, cells_per_buffer}
use Rattle.cells_spec.specs.Cells.{payload_rule, first_illegal, found, Legal, to_cells, to_bits}
use Rattle.cells_spec.proofs.FoundLaws.{found_none}
use Rattle.cells_spec.proofs.CellLaws.{all_legal, none_illegal, to_cells_legal, buffer_cells_lem, buffer_bits, buffer_back}
use Rattle.cells_spec.proofs.CellLaws.{buffer_cells_back}
use Rattle.cells_spec.specs.Calls.{illegal_in, map_call, demap_call}

-- ---- a buffer with an illegal byte, and one without

module _ (rule : ℕ → ℕ → Bool) (cells : List ℕ) (at : ℕ) (e : at ≡ first_illegal rule cells) where
  pub is_illegal : (ts : List Test) → at < length cells → Err (OffGrid at) ≡ verdict (illegal_in rule cells ∷ ts)
  unfolding illegal_in
  is_illegal ts h = is_off_grid ts _ _ _ at e (rw e at h)

  pub is_legal : (ts : List Test) (a : Answer) → length cells ≤ at → a ≡ verdict ts → a ≡ verdict (illegal_in rule cells ∷ ts)
  unfolding illegal_in
  is_legal ts a h = on_grid ts _ _ _ a (rw e at h)

  -- What the workers ask.
  pub demap_legal : length cells ≤ at → Legal rule cells
  demap_legal h = all_legal rule cells (rw e at h)

pub ruleset legality = (is_illegal, is_legal)

-- The same of the index as the code has it: there is none.
pub legal_unfound : (rule : ℕ → ℕ → Bool) (cells : List ℕ) → None ≡ found (length cells) (first_illegal rule cells) → Legal rule cells
legal_unfound rule cells e = demap_legal rule cells _ refl (found_none _ _ e)

-- ---- calls that no test refuses

-- The code compares the cells with m.
module _ (p : Modulation) (bits cells : List ℕ) (hb : length bits ≡ 21504) (m : ℕ) (em : m ≡ cells_per_buffer p * 2) (hc : length cells ≡ m) (d : List ℕ) where
  pub map_done : d ≡ to_cells p bits → after (Ok 0) d ≡ map_call p bits cells
  map_done e = let fit : length cells ≡ cells_per_buffer p * 2 = hc ∙ em in rw e (search (cases, fit) depth 6)

  pub demap_done : (at : ℕ) → at ≡ first_illegal (payload_rule p) cells → length cells ≤ at → d ≡ to_bits p cells
      → after (Ok 0) d ≡ demap_call p cells bits
  demap_done at ha h e = let fit : length cells ≡ cells_per_buffer p * 2 = hc ∙ em in rw e (search (cases, legality, fit) depth 7)

-- ---- refused calls leave the buffer as it was

pub map_keeps : (p : Modulation) (bits cells : List ℕ) → TurnedBack (map_call p bits cells).answer
    → (map_call p bits cells).written ≡ cells
map_keeps p bits cells = call_keeps _ _ _ refl

pub demap_keeps : (p : Modulation) (cells bits : List ℕ) → TurnedBack (demap_call p cells bits).answer
    → (demap_call p cells bits).written ≡ bits
demap_keeps p cells bits = call_keeps _ _ _ refl

-- ---- calls that are accepted

pub map_accepts : (p : Modulation) (bits cells : List ℕ) → length bits ≡ 21504 → length cells ≡ cells_per_buffer p * 2
    → map_call p bits cells ≡ after (Ok 0) (to_cells p bits)
map_accepts p bits cells hb hc = sym (map_done p bits cells hb _ refl hc _ refl)

pub demap_accepts : (p : Modulation) (cells bits : List ℕ) → length cells ≡ cells_per_buffer p * 2 → length bits ≡ 21504
    → Legal (payload_rule p) cells → demap_call p cells bits ≡ after (Ok 0) (to_bits p cells)
demap_accepts p cells bits hc hb legal =
    sym (demap_done p bits cells hb _ refl hc _ _ refl (none_illegal (payload_rule p) cells legal) refl)

-- ---- each call undoes the other

-- Cells to bits, lent what bits to cells left, is accepted and gives the bits back, whatever stood in the two buffers.
pub demap_after_map : (p : Modulation) (bits cells out : List ℕ) → length bits ≡ 21504 → length cells ≡ cells_per_buffer p * 2
    → length out ≡ 21504 → ((i : ℕ) → get_or bits i 0 < 256)
    → demap_call p (map_call p bits cells).written out ≡ after (Ok 0) bits
demap_after_map p bits cells out hb hc ho bytes =
    ap (λ a. demap_call p a.written out) (map_accepts p bits cells hb hc)
    ∙ demap_accepts p (to_cells p bits) out (buffer_cells_lem p bits hb) ho (to_cells_legal p bits)
    ∙ ap (after (Ok 0)) (buffer_back p bits hb bytes)

pub map_after_demap : (p : Modulation) (cells bits out : List ℕ) → length cells ≡ cells_per_buffer p * 2 → length bits ≡ 21504
    → length out ≡ cells_per_buffer p * 2 → Legal (payload_rule p) cells
    → map_call p (demap_call p cells bits).written out ≡ after (Ok 0) cells
map_after_demap p cells bits out hc hb ho legal =
    ap (λ a. map_call p a.written out) (demap_accepts p cells bits hc hb legal)
    ∙ map_accepts p (to_bits p cells) out (buffer_bits p cells hc) ho
    ∙ ap (after (Ok 0)) (buffer_cells_back p cells hc legal)
