-- Laws of specs/Highest.antt.
-- Assumes nothing.
use Rattle.std.specs.Prelude.{◌≡◌, refl, Bool, true, false, cond, List, [], ◌∷◌, ◌++◌, ℕ, ◌+◌, ◌<◌, ◌≤◌, leb, length, get_or, max, None}
use Rattle.std.proofs.Common.{arith, below_none, below_more}
use Rattle.std.proofs.lemmas.Bool.{lt-leb}
use Rattle.std.proofs.lemmas.Grind.{common_steps}
use Rattle.bits.specs.LeastLaws.{least_ext}
use Rattle.bits.specs.Seeking.{first, first_none}
use Rattle.cells_spec.specs.Cells.{payload_rule, first_illegal, found}
use Rattle.cells_spec.specs.Modulation.{Modulation}
use Rattle.cells_spec.specs.Highest.{Highest, flaw}
use Rattle.cells_spec.proofs.FoundLaws.{not_found}

-- The bytes are passed one after the other: by their index in a list,
pub highest_none : (f : ℕ → ℕ) (s : List ℕ) (top : ℕ) → Highest f s 0 top
highest_none f s top = record { upto = omega arith; within = below_none (λ k. f (get_or s k 0) ≤ top) }

pub highest_more : {f : ℕ → ℕ} {s : List ℕ} {i top : ℕ} (v next : ℕ) → Highest f s i top → i < length s → v ≡ f (get_or s i 0) → top ≤ next → v ≤ next
    → Highest f s (i + 1) next
highest_more {f} {s} {i} {top} v next h l e a b =
    record { upto = omega arith; within = below_more (λ k. f (get_or s k 0) ≤ next) i (λ k lk. omega (arith, h.within k lk)) (omega arith) }

-- and as a list that each is put to.
pub highest_put : {f : ℕ → ℕ} {s : List ℕ} {top : ℕ} (v next : ℕ) → Highest f s (length s) top → next ≡ max (f v) top
    → Highest f (s ++ (v ∷ [])) (length (s ++ (v ∷ []))) next
highest_put {f} {s} {top} v next h m = record { upto = omega arith; within = more f s top v next h.within (omega arith) (omega arith) }
  where
    more : (f : ℕ → ℕ) (s : List ℕ) (top v next : ℕ) → ((k : ℕ) → k < length s → f (get_or s k 0) ≤ top) → top ≤ next → f v ≤ next
        → (k : ℕ) → k < length (s ++ (v ∷ [])) → f (get_or (s ++ (v ∷ [])) k 0) ≤ next
    more f s top v next h a b k l = grind (arith, common_steps, h)

-- Where the highest is below a limit, none reaches it.
pub none_reaches : {f : ℕ → ℕ} {s : List ℕ} {top : ℕ} (limit : ℕ) → Highest f s (length s) top → top < limit
    → None ≡ found (length s) (first_illegal (λ j v. leb limit (f v)) s)
unfolding first_illegal
none_reaches {f} {s} limit h l =
    not_found (length s) _
    (omega (arith, first_none 0 (λ j v. leb limit (f v)) s (λ k lk. lt-leb limit (f (get_or s k 0)) (omega (arith, h.within k lk)))))

-- An illegal byte of payload is one whose flaw is 1 or more.
pub first_flaw : (p : Modulation) (s : List ℕ) → first_illegal (λ j v. leb 1 (flaw p v)) s ≡ first_illegal (payload_rule p) s
unfolding first_illegal first payload_rule flaw
first_flaw p s =
    least_ext (length s) (λ j. leb 1 (flaw p (get_or s j 0))) (λ j. payload_rule p j (get_or s j 0)) (λ j l. split (p.illegal (get_or s j 0)))
  where
    split : (b : Bool) → leb 1 (cond b 1 0) ≡ b
    split true = refl
    split false = refl
