-- Laws of `found`: what a caller makes of the index, or of none; and how the code comes to either.
-- Assumes nothing.
use Rattle.std.specs.Prelude.{◌≡◌, Bool, true, false, cond, List, [], ◌∷◌, ℕ, ◌+◌, ◌<◌, ◌≤◌, ltb, length, Option, Some, None}
use Rattle.std.specs.List.{position}
use Rattle.std.proofs.Common.{refl, sym, ap, arith}
use Rattle.std.proofs.lemmas.Bool.{ltb-true, ltb-false, lt-ltb, le-ltb}
use Rattle.std.proofs.lemmas.List.Recursion.{is_position_or_len}
use Rattle.bits.specs.Least.{least}
use Rattle.bits.specs.Seeking.{first}
use Rattle.cells_spec.specs.Cells.{first_illegal, found}

-- ---- what a caller makes of it

module _ (n i at : ℕ) where
  pub found_at : Some at ≡ found n i → at ≡ i
  unfolding found
  found_at e = split (ltb i n) e
    where
      split : (b : Bool) → Some at ≡ cond b (Some i) None → at ≡ i
      split true h = cc
      split false h = absurd (cc)

  pub found_within : Some at ≡ found n i → at < n
  unfolding found
  found_within e = split (ltb i n) refl e
    where
      split : (b : Bool) → ltb i n ≡ b → Some at ≡ cond b (Some i) None → at < n
      split true t h = let s : at ≡ i = cc in omega (arith, ltb-true i n t)
      split false t h = absurd (cc)

pub found_none : (n i : ℕ) → None ≡ found n i → n ≤ i
unfolding found
found_none n i e = split (ltb i n) refl e
  where
    split : (b : Bool) → ltb i n ≡ b → ◌≡◌ {A = Option ℕ} None (cond b (Some i) None) → n ≤ i
    split true t h = absurd (cc)
    split false t h = ltb-false i n t

pub ruleset by_found = (found_at, found_within, found_none)

-- ---- how the code comes to it

pub is_found : (n i at : ℕ) → at ≡ i → at < n → Some at ≡ found n i
unfolding found
is_found n i at e l = let t : ltb i n ≡ true = lt-ltb i n (omega arith) in rw (t, e)

pub not_found : (n i : ℕ) → n ≤ i → None ≡ found n i
unfolding found
not_found n i l = simp (le-ltb i n l)

-- std's `position`, of a test that asks nothing of the place.
first_of : (ℕ → Bool) → List ℕ → ℕ
first_of p s = first 0 (λ j v. p v) s

first_nil : (p : ℕ → Bool) → first_of p [] ≡ 0
unfolding first_of first least
first_nil p = refl

first_more : (p : ℕ → Bool) (x : ℕ) (xs : List ℕ) → first_of p (x ∷ xs) ≡ cond (p x) 0 (1 + first_of p xs)
unfolding first_of first least
first_more p x xs = ap (cond (p x) 0) (omega arith)

pub position_found : (p : ℕ → Bool) (s : List ℕ) → position p s ≡ found (length s) (first_illegal (λ j v. p v) s)
unfolding found first_illegal first_of
position_found p s = ap (λ i. cond (ltb i (length s)) (Some i) None) (sym (is_position_or_len (first_of p) p (first_nil p) (first_more p) s))
