-- What an array's `map` makes of a closure that keeps its state.
-- Assumes nothing.
use Rattle.std.specs.Prelude.{◌≡◌, List, ℕ, zero, suc, ◌+◌, ◌<◌, get_or}
use Rattle.std.proofs.Common.{refl, sym, ap, ◌∙◌, subst, arith}
use denote.Param.Members.{Mut, Called}
use Rattle.std.specs.Array.{IsMapOf, MapsFrom}
use Rattle.bits.specs.Lists.{tabulate}
use Rattle.bits.specs.ListLaws.{is_tabulate}

module _ {F A B : Type 0} (g : Mut F (A × Unit {0}) B) (f : F) (xs : List A) (ys : List B) (h : A → B)
    (e : (x : A) (y : B) (q : F) → Called g f (x, tt) y q → (q ≡ f) × (y ≡ h x)) where
  values : (m i : ℕ) (q : F) → q ≡ f → MapsFrom g q xs ys i m → (k : ℕ) → k < m → (a : A) (b : B) → get_or ys (i + k) b ≡ h (get_or xs (i + k) a)
  values zero i q s r k l a b = absurd (omega arith)
  values (suc m) i q s (q', x, y, from, at, called, rest) zero l a b =
      let here : i + 0 ≡ i = omega arith in
      let first : (q' ≡ f) × (y ≡ h x) = e x y q' (subst (λ u. Called g u (x, tt) y q') s called) in
      subst (λ j. get_or ys j b ≡ h (get_or xs j a)) (sym here) (at.1 b ∙ first.1 ∙ ap h (sym (from.1 a)))
  values (suc m) i q s (q', x, y, from, at, called, rest) (suc k) l a b =
      let next : i + 1 + k ≡ i + suc k = omega arith in
      let first : (q' ≡ f) × (y ≡ h x) = e x y q' (subst (λ u. Called g u (x, tt) y q') s called) in
      subst (λ j. get_or ys j b ≡ h (get_or xs j a)) next (values m (i + 1) q' first.0 rest k (omega arith) a b)

-- Where each call leaves the closure as it is and gives h x for x.
pub map_is : {F A B : Type 0} {g : Mut F (A × Unit {0}) B} {f : F} {xs : List A} {ys : List B} {n : ℕ} (h : A → B) (a : A)
    → ((x : A) (y : B) (q : F) → Called g f (x, tt) y q → (q ≡ f) × (y ≡ h x)) → IsMapOf g f xs ys n → ys ≡ tabulate n (λ i. h (get_or xs i a))
map_is {g = g} {f = f} {xs = xs} {ys = ys} {n = n} h a e r =
    is_tabulate (h a) ys n (λ i. h (get_or xs i a)) r.long
    (λ k l. let here : 0 + k ≡ k = omega arith in subst (λ j. get_or ys j (h a) ≡ h (get_or xs j a)) here (values g f xs ys h e n 0 f refl r.each k l a (h a)))
