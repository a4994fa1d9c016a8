-- A row made block by block, by a step that gives each of them.
-- Assumes nothing.
use Rattle.std.specs.Prelude.{◌≡◌, cond, List, [], ℕ, ◌+◌, ◌/◌, ◌%◌, ◌<◌, ◌≤◌, eqb, length, get_or}
use Rattle.std.proofs.Math.Decide.{ℕ_discrete}
use Rattle.std.proofs.Common.{refl, sym, subst, ap, ◌∙◌, arith, eq-eqb, ne_eqb}
use Rattle.bits.specs.ListLaws.{length_tabulate, get_d_tabulate, tabulate_ext}
use Rattle.blocks.specs.SideBySide.{laid_word, laid, laid_in}
use Rattle.blocks.specs.Laying.{Laid, laid_none, laid_more, laid_done}

-- Each block C of the row is one that the step may give for C.
pub record LaidBy (gives : ℕ → List ℕ → Type 0) (row : List ℕ) : Type 0 where
  pub block : ℕ → List ℕ
  pub given : (C : ℕ) → C < 8 → gives C (block C)
  pub is : row ≡ laid block

-- Where the step gives f C for C, the row is that of f's blocks.
pub laid_by_is : {gives : ℕ → List ℕ → Type 0} {row : List ℕ} (f : ℕ → List ℕ) → ((C : ℕ) (b : List ℕ) → C < 8 → gives C b → b ≡ f C) → LaidBy gives row
    → row ≡ laid f
unfolding laid laid_word
laid_by_is f e m =
    m.is
    ∙ tabulate_ext 128 (laid_word m.block) (laid_word f)
    (λ x l. ap (λ b. get_or b (x / 8) 0) (e (x % 8) (m.block (x % 8)) (omega arith) (m.given (x % 8) (omega arith))))

pub laid_all : {f : ℕ → List ℕ} {row : List ℕ} → row ≡ laid f → Laid f 8 row
unfolding laid
laid_all {f} e =
    record {
      upto = omega arith;
      long = ap length e ∙ length_tabulate 128 (laid_word f);
      at = λ x l p. ap (λ r. get_or r x 0) e ∙ get_d_tabulate 128 (laid_word f) x 0 l;
    }

-- ---- the invariant of the loop: none / more / done

pub record LayingBy (gives : ℕ → List ℕ → Type 0) (C : ℕ) (row : List ℕ) : Type 0 where
  pub block : ℕ → List ℕ
  pub given : (k : ℕ) → k < C → gives k (block k)
  pub laid : Laid block C row

pub laying_by_none : (gives : ℕ → List ℕ → Type 0) (row : List ℕ) → length row ≡ 128 → LayingBy gives 0 row
laying_by_none gives row e = record { block = λ k. []; given = λ k l. absurd (omega arith); laid = laid_none (λ k. []) row e }

pub laying_by_more : {gives : ℕ → List ℕ → Type 0} {C : ℕ} {from : List ℕ} (b row : List ℕ) → LayingBy gives C from → C < 8 → gives C b
    → row ≡ laid_in from C b → LayingBy gives (C + 1) row
unfolding laid_word
laying_by_more {gives} {C} {from} b row h l g e =
    record { block = next; given = λ k lk. here k lk (ℕ_discrete k C); laid = laid_more b row before l e (at_C C refl) }
  where
    next : ℕ → List ℕ
    next k = cond (eqb k C) b (h.block k)

    at_C : (k : ℕ) → k ≡ C → b ≡ cond (eqb k C) b (h.block k)
    at_C k s = simp (eq-eqb k C s)

    below : (k : ℕ) → (k ≡ C → ⊥) → h.block k ≡ cond (eqb k C) b (h.block k)
    below k ne = simp (ne_eqb k C ne)

    here : (k : ℕ) → k < C + 1 → Dec (k ≡ C) → gives k (cond (eqb k C) b (h.block k))
    here k lk (yes s) = subst (λ (y : List ℕ). gives k y) (at_C k s) (subst (λ (i : ℕ). gives i b) (sym s) g)
    here k lk (no s) = subst (λ (y : List ℕ). gives k y) (below k s) (h.given k (omega arith))

    before : Laid next C from
    before =
        record {
          upto = h.laid.upto;
          long = h.laid.long;
          at = λ x lx p. h.laid.at x lx p ∙ ap (λ y. get_or y (x / 8) 0) (below (x % 8) (λ s. absurd (omega arith)));
        }

pub laying_by_done : {gives : ℕ → List ℕ → Type 0} {C : ℕ} {row : List ℕ} → LayingBy gives C row → 8 ≤ C → LaidBy gives row
laying_by_done h l = record { block = h.block; given = λ C lC. h.given C (omega arith); is = laid_done h.laid l }

pub ruleset laying_by = (laying_by_none, laying_by_more, laying_by_done)
