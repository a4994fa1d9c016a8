-- Sixteen values put into a lane of eight side by side, and the invariant of the loop that puts them: none / more / done.
-- Assumes nothing.
use Rattle.std.specs.Prelude.{◌≡◌, refl, List, ◌≢◌, ℕ, ◌+◌, ◌*◌, ◌/◌, ◌%◌, ◌<◌, ◌≤◌, length, get_or, set}
use Rattle.std.proofs.Common.{sym, ap, ◌∙◌, arith, eq-eqb, ne_eqb, length-set, get_or-set_same, get_or-set_other}
use Rattle.std.proofs.Math.Decide.{ℕ_discrete}
use Rattle.std.proofs.lemmas.List.{get_or_default}
use Rattle.bits.specs.ListLaws.{is_tabulate}
use Rattle.blocks.specs.SideBySide.{laid_at, laid_in}

-- Of lane C's values the first i are in the row; its other values are as they were.
pub record PutBelow {A : Type 0} (from : List A) (C : ℕ) (b : List A) (i : ℕ) (row : List A) : Type 0 where
  pub upto : i ≤ 16
  pub long : length row ≡ 128
  pub new : (z : A) (x : ℕ) → x < 128 → x % 8 ≡ C → x / 8 < i → get_or row x z ≡ get_or b (x / 8) z
  pub old : (z : A) (x : ℕ) → x < 128 → (x % 8 ≡ C → ⊥) → get_or row x z ≡ get_or from x z

-- All sixteen.
abbrev pub IsPutInto : {A : Type 0} → List A → ℕ → List A → List A → Type 0
IsPutInto from C b row = PutBelow from C b 16 row

module _ {A : Type 0} where
  pub put_none : (from : List A) (C : ℕ) (b : List A) → length from ≡ 128 → PutBelow from C b 0 from
  put_none from C b e = record { upto = omega arith; long = e; new = λ z x l p q. absurd (omega arith); old = λ z x l p. refl }

  pub put_more : {from : List A} {C : ℕ} {b : List A} {i : ℕ} {row : List A} (v : A) → PutBelow from C b i row → i < 16 → C < 8 → length b ≡ 16
      → v ≡ get_or b i v → PutBelow from C b (i + 1) (set row (8 * i + C) v)
  put_more {from} {C} {b} {i} {row} v h l lC n e =
      record {
        upto = omega arith;
        long = length-set row (8 * i + C) v ∙ h.long;
        new = λ z x lx p q. put z x lx p q (ℕ_discrete x (8 * i + C));
        old = λ z x lx p. let ne : x ≢ 8 * i + C = (λ s. p (omega arith)) in get_or-set_other row (8 * i + C) x v z ne ∙ h.old z x lx p;
      }
    where
      put : (z : A) (x : ℕ) → x < 128 → x % 8 ≡ C → x / 8 < i + 1 → Dec (x ≡ 8 * i + C) → get_or (set row (8 * i + C) v) x z ≡ get_or b (x / 8) z
      put z x lx p q (yes s) =
          let d : x / 8 ≡ i = omega arith in
          ap (λ (y : ℕ). get_or (set row (8 * i + C) v) y z) s
          ∙ get_or-set_same row (8 * i + C) v z (omega (arith, h.long)) ∙ e ∙ get_or_default b i v z (omega (arith, n)) ∙ ap (λ (y : ℕ). get_or b y z) (sym d)
      put z x lx p q (no s) =
          let d : x / 8 < i = omega arith in
          get_or-set_other row (8 * i + C) x v z s ∙ h.new z x lx p d

  pub put_done : {from : List A} {C : ℕ} {b : List A} {i : ℕ} {row : List A} → PutBelow from C b i row → 16 ≤ i → IsPutInto from C b row
  put_done h l = record { upto = omega arith; long = h.long; new = λ z x lx p q. h.new z x lx p (omega arith); old = h.old }

pub ruleset putting = (put_none, put_more, put_done)

-- Of numbers.
pub put_in : {from : List ℕ} {C : ℕ} {b row : List ℕ} → IsPutInto from C b row → row ≡ laid_in from C b
unfolding laid_in laid_at
put_in {from} {C} {b} {row} h = is_tabulate 0 row 128 (laid_at from C b) h.long (λ x lx. here x lx (ℕ_discrete (x % 8) C))
  where
    here : (x : ℕ) → x < 128 → Dec (x % 8 ≡ C) → get_or row x 0 ≡ laid_at from C b x
    here x lx (yes p) = h.new 0 x lx p (omega arith) ∙ simp (eq-eqb (x % 8) C p)
    here x lx (no p) = h.old 0 x lx p ∙ simp (ne_eqb (x % 8) C p)
