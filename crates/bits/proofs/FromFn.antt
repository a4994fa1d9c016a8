-- What `array::from_fn` makes of a closure that keeps its state: the list of its values.
-- Assumes nothing.
use Rattle.std.specs.Prelude.{◌≡◌, List, ℕ, zero, suc, ◌+◌, ◌<◌, get_or, [], ◌∷◌, map, length}
use Rattle.std.proofs.Common.{refl, sym, ◌∙◌, subst, arith, ap}
use denote.Param.Members.{Mut, Called}
use Rattle.std.specs.Array.{IsFromFnResult, IsFromFnResultFrom}
use Rattle.bits.specs.Lists.{tabulate}
use Rattle.bits.specs.ListLaws.{is_tabulate}
use Rattle.std.proofs.lemmas.List.{get_or-map, length-map}

module _ {F B : Type 0} (g : Mut F (ℕ × Unit {0}) B) (f : F) (ys : List B) (R : ℕ → B → Type 0) (n : ℕ)
    (e : (i : ℕ) (y : B) (q : F) → i < n → Called g f (i, tt) y q → (q ≡ f) × R i y) where
  values : (m i : ℕ) (q : F) → i + m ≡ n → q ≡ f → IsFromFnResultFrom g q ys i m → (k : ℕ) → k < m → (d : B) → R (i + k) (get_or ys (i + k) d)
  values zero i q p s r k l d = absurd (omega arith)
  values (suc m) i q p s (q', y, at, called, rest) zero l d =
      let here : i + 0 ≡ i = omega arith in
      let first : (q' ≡ f) × R i y = e i y q' (omega arith) (subst (λ x. Called g x (i, tt) y q') s called) in
      subst (λ x. R x (get_or ys x d)) (sym here) (subst (R i) (sym (at.1 d)) first.1)
  values (suc m) i q p s (q', y, at, called, rest) (suc k) l d =
      let next : i + 1 + k ≡ i + suc k = omega arith in
      let first : (q' ≡ f) × R i y = e i y q' (omega arith) (subst (λ x. Called g x (i, tt) y q') s called) in
      subst (λ x. R x (get_or ys x d)) next (values m (i + 1) q' (omega arith) first.0 rest k (omega arith) d)

-- Where each call leaves the closure as it is and gives at i what is in R;
pub from_fn_each : {F B : Type 0} {g : Mut F (ℕ × Unit {0}) B} {f : F} {ys : List B} {n : ℕ} (R : ℕ → B → Type 0)
    → ((i : ℕ) (y : B) (q : F) → i < n → Called g f (i, tt) y q → (q ≡ f) × R i y) → IsFromFnResult g f ys n → (i : ℕ) → i < n → (d : B) → R i (get_or ys i d)
from_fn_each {g = g} {f = f} {ys = ys} {n = n} R e r i l d = let here : 0 + i ≡ i = omega arith in subst (λ x. R x (get_or ys x d)) here (values g f ys R n e n 0 f (omega arith) refl r.each i l d)

-- and where it gives h i.
pub from_fn_is : {F B : Type 0} {g : Mut F (ℕ × Unit {0}) B} {f : F} {ys : List B} {n : ℕ} (h : ℕ → B)
    → ((i : ℕ) (y : B) (q : F) → i < n → Called g f (i, tt) y q → (q ≡ f) × (y ≡ h i)) → IsFromFnResult g f ys n → ys ≡ tabulate n h
from_fn_is {g = g} {f = f} {ys = ys} {n = n} h e r = is_tabulate (h 0) ys n h r.long (λ i l. from_fn_each (λ i y. y ≡ h i) e r i l (h 0))

-- The same for a closure over a type parameter, whose values are numbers only by v: where each call gives a y of which v makes h i.
pub from_fn_maps : {F B : Type 0} {g : Mut F (ℕ × Unit {0}) B} {f : F} {ys : List B} {n : ℕ} (v : B → ℕ) (h : ℕ → ℕ)
    → ((i : ℕ) (y : B) (q : F) → i < n → Called g f (i, tt) y q → (q ≡ f) × (v y ≡ h i)) → IsFromFnResult g f ys n → map v ys ≡ tabulate n h
from_fn_maps {B = B} {g = g} {f = f} {ys = ys} {n = n} v h e r = go ys refl
  where
    long : length (map v ys) ≡ n
    long = length-map ys v ∙ r.long

    go : (zs : List B) → ys ≡ zs → map v ys ≡ tabulate n h
    go [] p = is_tabulate 0 (map v ys) n h long (λ k l. absurd (omega (arith, r.long, ap length p)))
    go (z ∷ zs) p = is_tabulate 0 (map v ys) n h long
        (λ k l. get_or-map v ys k z 0 (omega (arith, r.long)) ∙ from_fn_each (λ i y. v y ≡ h i) e r k l z)
