-- Laws of the search through a list of repairs, and of the list that is searched.
-- Assumes nothing.
use Rattle.std.specs.Prelude.{◌≡◌, refl, Bool, true, false, cond, ◌⊎◌, ℕ, zero, suc, ◌+◌, ◌<◌, ◌≤◌}
use Rattle.std.proofs.Common.{sym, ap, ◌∙◌, subst, inl, inr, arith}
use mathlib.Core.List.Memᴰ
use mathlib.Core.List.{List, [], ◌∷◌, ◌++◌, map, Memᴰ}
use Rattle.std.proofs.Math.Decide.{ℕ_discrete}
use Rattle.word_spec.specs.Repair.{first_place, open_places, from, two_flips, candidates, first_that}
use Rattle.word_spec.specs.declared.Repair.{Repair}
use Rattle.word_spec.specs.declared.Repair.TheVariants.{Sound, One, Two, Lost}
use Rattle.word_spec.specs.Search.{Allowed}

-- ---- the first that passes

pub first_passes : (test : Repair → Bool) (l : List Repair)
    → (first_that test l ≡ Lost) ⊎ (Memᴰ (first_that test l) l × (test (first_that test l) ≡ true))
unfolding first_that
first_passes test [] = inl refl
first_passes test (r ∷ rs) = step (test r) refl (first_passes test rs)
  where
    step : (b : Bool) → test r ≡ b → (first_that test rs ≡ Lost) ⊎ (Memᴰ (first_that test rs) rs × (test (first_that test rs) ≡ true))
        → (cond b r (first_that test rs) ≡ Lost) ⊎ (Memᴰ (cond b r (first_that test rs)) (r ∷ rs) × (test (cond b r (first_that test rs)) ≡ true))
    step true e rest = inr (Memᴰ.head refl, e)
    step false e (inl z) = inl z
    step false e (inr p) = inr (Memᴰ.tail p.0, p.1)

pub first_found : (test : Repair → Bool) (l : List Repair) (r : Repair) → Memᴰ r l → test r ≡ true
    → Memᴰ (first_that test l) l × (test (first_that test l) ≡ true)
unfolding first_that
first_found test [] r m t = absurd (Memᴰ.not-nil m)
first_found test (x ∷ xs) r m t = step (test x) refl (Memᴰ.cases_cons m) (λ n. first_found test xs r n t)
  where
    step : (b : Bool) → test x ≡ b → (r ≡ x) ⊎ Memᴰ r xs
        → (Memᴰ r xs → Memᴰ (first_that test xs) xs × (test (first_that test xs) ≡ true))
        → Memᴰ (cond b x (first_that test xs)) (x ∷ xs) × (test (cond b x (first_that test xs)) ≡ true)
    step true e c rest = (Memᴰ.head refl, e)
    step false e (inl p) rest = absurd (differ (sym e ∙ ap test (sym p) ∙ t))
      where
        differ : false ≡ true → ⊥
        differ z = let q : ◌≡◌ {A = ℕ} 0 1 = ap (λ (b : Bool). cond b 1 0) z in omega arith
    step false e (inr n) rest = let p = rest n in (Memᴰ.tail p.0, p.1)

-- ---- what stands in the list

in_map : {A B : Type 0} (f : A → B) {x : A} {l : List A} → Memᴰ x l → Memᴰ (f x) (map f l)
in_map f (Memᴰ.head e) = Memᴰ.head (ap f e)
in_map f (Memᴰ.tail m) = Memᴰ.tail (in_map f m)

of_map : {A B : Type 0} (f : A → B) (l : List A) {y : B} → Memᴰ y (map f l) → (x : A) × Memᴰ x l × (y ≡ f x)
of_map f [] m = absurd (Memᴰ.not-nil m)
of_map {A} f (a ∷ l) {y} m = step (Memᴰ.cases_cons m) (λ n. of_map f l n)
  where
    step : (y ≡ f a) ⊎ Memᴰ y (map f l) → (Memᴰ y (map f l) → (x : A) × Memᴰ x l × (y ≡ f x))
        → (x : A) × Memᴰ x (a ∷ l) × (y ≡ f x)
    step (inl e) rest = (a, Memᴰ.head refl, e)
    step (inr n) rest = let p = rest n in (p.0, Memᴰ.tail p.1, p.2)

in_from : (a n i : ℕ) → a ≤ i → i < a + n → Memᴰ i (from a n)
unfolding from
in_from a zero i l h = absurd (omega arith)
in_from a (suc n) i l h = go (ℕ_discrete i a) (λ m. in_from (suc a) n i m (omega arith))
  where
    go : Dec (i ≡ a) → (suc a ≤ i → Memᴰ i (from (suc a) n)) → Memᴰ i (a ∷ from (suc a) n)
    go (yes e) rest = Memᴰ.head e
    go (no d) rest = Memᴰ.tail (rest (omega arith))

of_from : (a n : ℕ) {i : ℕ} → Memᴰ i (from a n) → (a ≤ i) × (i < a + n)
unfolding from
of_from a zero m = absurd (Memᴰ.not-nil m)
of_from a (suc n) {i} m = step (Memᴰ.cases_cons m) (λ k. of_from (suc a) n k)
  where
    step : (i ≡ a) ⊎ Memᴰ i (from (suc a) n) → (Memᴰ i (from (suc a) n) → (suc a ≤ i) × (i < suc a + n))
        → (a ≤ i) × (i < a + suc n)
    step (inl e) rest = (omega arith, omega arith)
    step (inr k) rest = let p = rest k in (omega arith, omega arith)

in_pairs : (a n i j : ℕ) → a ≤ i → i < j → j < a + n → Memᴰ (Two i j) (two_flips (from a n))
unfolding from two_flips
in_pairs a zero i j l m h = absurd (omega arith)
in_pairs a (suc n) i j l m h = go (ℕ_discrete i a) (λ k. in_pairs (suc a) n i j k m (omega arith))
  where
    go : Dec (i ≡ a) → (suc a ≤ i → Memᴰ (Two i j) (two_flips (from (suc a) n)))
        → Memᴰ (Two i j) (map (Two a) (from (suc a) n) ++ two_flips (from (suc a) n))
    go (yes e) rest =
        rw e (Memᴰ.append_left (two_flips (from (suc a) n)) (in_map (Two a) (in_from (suc a) n j (omega arith) (omega arith))))
    go (no d) rest = Memᴰ.append_right (map (Two a) (from (suc a) n)) (rest (omega arith))

-- What `two_flips` holds has places that rise, from a on and below b.
abbrev Pair : ℕ → ℕ → Repair → Type 0
Pair a b r = (i : ℕ) × (j : ℕ) × ((r ≡ Two i j) × (a ≤ i) × (i < j) × (j < b))

of_pairs : (a n : ℕ) {r : Repair} → Memᴰ r (two_flips (from a n)) → Pair a (a + n) r
unfolding from two_flips
of_pairs a zero m = absurd (Memᴰ.not-nil m)
of_pairs a (suc n) {r} m = step (Memᴰ.append_cases (map (Two a) (from (suc a) n)) m) (λ k. of_pairs (suc a) n k)
  where
    step : Memᴰ r (map (Two a) (from (suc a) n)) ⊎ Memᴰ r (two_flips (from (suc a) n))
        → (Memᴰ r (two_flips (from (suc a) n)) → Pair (suc a) (suc a + n) r) → Pair a (a + suc n) r
    step (inl k) rest =
        let p = of_map (Two a) (from (suc a) n) k in
        let q = of_from (suc a) n p.1 in
        (a, p.0, (p.2, omega arith, omega arith, omega arith))
    step (inr k) rest = let p = rest k in (p.0, p.1, (p.2.0, omega (arith, p.2.1), p.2.2, omega (arith, p.2.3)))

-- The list for places from a on: exactly the repairs that are allowed.
pub in_candidates : (a n : ℕ) → a + n ≡ 256 → (r : Repair) → Allowed a r → Memᴰ r (candidates (from a n))
unfolding candidates
in_candidates a n e Sound t = Memᴰ.head refl
in_candidates a n e (One i) t =
    Memᴰ.tail (Memᴰ.append_left (two_flips (from a n)) (in_map One (in_from a n i t.0 (omega (arith, t.1)))))
in_candidates a n e (Two i j) t =
    Memᴰ.tail (Memᴰ.append_right (map One (from a n)) (in_pairs a n i j t.0 t.1 (omega (arith, t.2))))
in_candidates a n e Lost t = absurd t

pub of_candidates : (a n : ℕ) → a + n ≡ 256 → (r : Repair) → Memᴰ r (candidates (from a n)) → Allowed a r
unfolding candidates
of_candidates a n e r m = first (Memᴰ.cases_cons m)
  where
    rest : Memᴰ r (map One (from a n)) ⊎ Memᴰ r (two_flips (from a n)) → Allowed a r
    rest (inl k) =
        let p = of_map One (from a n) k in
        let q = of_from a n p.1 in
        subst (Allowed a) (sym p.2) (q.0, omega (arith, q.1))
    rest (inr k) =
        let p = of_pairs a n k in
        subst (Allowed a) (sym p.2.0) (p.2.1, p.2.2, omega (arith, p.2.3))

    first : (r ≡ Sound) ⊎ Memᴰ r (map One (from a n) ++ two_flips (from a n)) → Allowed a r
    first (inl k) = subst (Allowed a) (sym k) tt
    first (inr k) = rest (Memᴰ.append_cases (map One (from a n)) k)

pub in_open : (front : Bool) (r : Repair) → Allowed (first_place front) r → Memᴰ r (candidates (open_places front))
in_open true = in_candidates 0 256 refl
in_open false = in_candidates 128 128 refl

pub of_open : (front : Bool) (r : Repair) → Memᴰ r (candidates (open_places front)) → Allowed (first_place front) r
of_open true = of_candidates 0 256 refl
of_open false = of_candidates 128 128 refl
