-- Laws of lists of calls.
-- Assumes nothing.
use Rattle.std.specs.Prelude.{◌≡◌, ◌≢◌, ℕ, zero, suc, ◌<◌, length, get_or}
use Rattle.std.proofs.Math.Path.{refl, ap, subst}
use Rattle.std.proofs.Common.{sym, ◌∙◌, arith, eq-eqb, ne_eqb}
use mathlib.Core.List.{List, [], ◌∷◌, map}
use Rattle.std.proofs.Math.Decide.{ℕ_discrete}
use Rattle.calls.specs.Sequences.{At, here, later, Part, not_lent, was_lent, Kind, Run, done, takes, refused, accepted, Numbered, Keeping}

-- ---- places of a list

module _ {A : Type 0} where
  pub At_nil : {i : ℕ} {x : A} → At [] i x → ⊥
  At_nil = elim [ ]

  pub At_lt : {l : List A} {i : ℕ} {x : A} → At l i x → i < length l
  At_lt here = omega arith
  At_lt (later a) = omega (arith, At_lt a)

  pub At_find : (l : List A) (i : ℕ) → i < length l → (x : A) × At l i x
  At_find [] i lt = absurd (omega arith)
  At_find (x ∷ xs) zero lt = (x, here)
  At_find (x ∷ xs) (suc i) lt = let r = At_find xs i (omega arith) in (r.0, later r.1)

  pub At_map : {B : Type 0} (f : A → B) (d : B) {l : List A} {i : ℕ} {x : A} → At l i x → get_or (map f l) i d ≡ f x
  At_map f d here = refl
  At_map f d (later a) = At_map f d a

  -- What stands in a mapped list stands in the list.
  pub mapped_at : {B : Type 0} (f : A → B) (l : List A) (i : ℕ) (y : B) → At (map f l) i y → (x : A) × At l i x × (f x ≡ y)
  mapped_at {B = B} f [] i y x' = elim x' [ ]
  mapped_at f (x ∷ xs) i y here = (x, here, refl)
  mapped_at f (x ∷ xs) i y (later a) = let r = mapped_at f xs _ y a in (r.0, later r.1, r.2)

  pub at_mapped : {B : Type 0} (f : A → B) {l : List A} {i : ℕ} {x : A} → At l i x → At (map f l) i (f x)
  at_mapped f here = here
  at_mapped f (later a) = later (at_mapped f a)

  pub At_only : {l : List A} {i : ℕ} {x y : A} → At l i x → At l i y → x ≡ y
  At_only {x = x} a b = sym (At_map (λ z. z) x a) ∙ At_map (λ z. z) x b

  -- A part of the state is as it was, where the call left everything as it was lent.
  pub part_kept : {lent left : List A} → left ≡ lent → {x y : A} → Part lent left x y → y ≡ x
  part_kept e not_lent = refl
  part_kept e (was_lent {i} {x} {y} a b) = At_only (subst (λ l. At l i y) e b) a

module _ (K : Kind) where
  pub accepted_yes : (c : K.Call) (cs : List K.Call) → K.number c ≡ 0 → accepted K (c ∷ cs) ≡ c ∷ accepted K cs
  unfolding accepted
  accepted_yes c cs p = simp (eq-eqb (K.number c) 0 p)

  pub accepted_no : (c : K.Call) (cs : List K.Call) → K.number c ≢ 0 → accepted K (c ∷ cs) ≡ accepted K cs
  unfolding accepted
  accepted_no c cs p = simp (ne_eqb (K.number c) 0 p)

  -- An accepted call is accepted.
  pub is_accepted : (cs : List K.Call) {i : ℕ} {x : K.Call} → At (accepted K cs) i x → K.number x ≡ 0
  unfolding accepted
  is_accepted [] a = absurd (At_nil a)
  is_accepted (c ∷ cs) {i} {x} a = go (ℕ_discrete (K.number c) 0) (λ j b. is_accepted cs {i = j} b)
    where
      first : (ds : List K.Call) → K.number c ≡ 0 → {j : ℕ} {y : K.Call} → At (c ∷ ds) j y
          → ((k : ℕ) → At ds k y → K.number y ≡ 0) → K.number y ≡ 0
      first ds p here rest = p
      first ds p (later b) rest = rest _ b

      go : Dec (K.number c ≡ 0) → ((j : ℕ) → At (accepted K cs) j x → K.number x ≡ 0) → K.number x ≡ 0
      go (yes p) rest = first (accepted K cs) p (subst (λ l. At l i x) (accepted_yes c cs p) a) rest
      go (no q) rest = rest i (subst (λ l. At l i x) (accepted_no c cs q) a)

  -- ---- refused calls do not matter

  pub without_refused : Keeping K → {s t : K.State} {cs : List K.Call} → Run K s cs t → Run K s (accepted K cs) t
  unfolding accepted
  without_refused keeps done = done
  without_refused keeps (takes {c = c} {cs = cs} ok e r) = rw (accepted_yes c cs ok) (takes ok e (without_refused keeps r))
  without_refused keeps (refused {s} {u} {t} {c} {cs} bad e r) =
      rw (accepted_no c cs bad) (subst (λ v. Run K v (accepted K cs) t) (keeps c bad s u e) (without_refused keeps r))

  -- ---- what each accepted call is lent

  -- Holds i is said of the state before accepted call i, and goes on from each accepted call to the next.
  abbrev pub Follows : (ℕ → K.State → Type 0) → List K.Call → Type 0
  Follows Holds cs = (i : ℕ) (c : K.Call) → At (accepted K cs) i c → Holds i (K.lent c) → Holds (suc i) (K.left c)

  first_or_later : (Holds : ℕ → K.State → Type 0) (d : K.Call) (ds : List K.Call) → Holds 0 (K.lent d)
      → ((j : ℕ) (x : K.Call) → At ds j x → Holds (suc j) (K.lent x)) → {i : ℕ} {c : K.Call} → At (d ∷ ds) i c → Holds i (K.lent c)
  first_or_later Holds d ds e rest here = e
  first_or_later Holds d ds e rest (later b) = rest _ _ b

  -- So it holds of what each accepted call is lent.
  pub holds_at : Keeping K → (Holds : ℕ → K.State → Type 0) {s t : K.State} {cs : List K.Call} → Run K s cs t → Holds 0 s → Follows Holds cs
      → (i : ℕ) (c : K.Call) → At (accepted K cs) i c → Holds i (K.lent c)
  unfolding accepted
  holds_at keeps Holds done e f i c a = absurd (At_nil a)
  holds_at keeps Holds (takes {c = d} {cs = ds} ok p r) e f i c a =
      let now : Holds 0 (K.lent d) = subst (Holds 0) (sym p) e in
      first_or_later Holds d (accepted K ds) now
      (holds_at keeps (λ n. Holds (suc n)) r (f 0 d (subst (λ l. At l 0 d) (sym (accepted_yes d ds ok)) here) now)
      (λ j x b. f (suc j) x (subst (λ l. At l (suc j) x) (sym (accepted_yes d ds ok)) (later b))))
      (subst (λ l. At l i c) (accepted_yes d ds ok) a)
  holds_at keeps Holds (refused {s} {u} {c = d} {cs = ds} bad p r) e f i c a =
      holds_at keeps Holds r (subst (Holds 0) (sym (keeps d bad s u p)) e) (λ j x b. f j x (subst (λ l. At l j x) (sym (accepted_no d ds bad)) b)) i c
      (subst (λ l. At l i c) (accepted_no d ds bad) a)

  -- THE LAW of numbers: where accepted calls name what the state shows that they are lent, and leave one that shows the next pair number,
  -- from a state that shows encoder e and pair 0 they are e's pairs 0, 1, 2 and on.
  pub numbered : Keeping K → (encoder pair : K.Call → ℕ) (Shows : ℕ → ℕ → K.State → Type 0)
      → ((c : K.Call) → K.number c ≡ 0 → (e P : ℕ) → Shows e P (K.lent c) → (encoder c ≡ e) × (pair c ≡ P))
      → ((c : K.Call) → K.number c ≡ 0 → (e P : ℕ) → Shows e P (K.lent c) → Shows e (suc P) (K.left c))
      → (e : ℕ) {s t : K.State} → Shows e 0 s → (cs : List K.Call) → Run K s cs t → Numbered K encoder pair e cs
  numbered keeps encoder pair Shows names next e fresh cs run P c a =
      names c (is_accepted cs a) e P (holds_at keeps (Shows e) run fresh (λ i d b. next d (is_accepted cs b) e i) P c a)

-- ---- the same calls seen as two kinds

-- f and g take calls and states of one kind to those of another, with their refusal numbers and what they are lent and leave.
pub record Mirrors (K L : Kind) (f : K.Call → L.Call) (g : K.State → L.State) : Type 0 where
  pub numbers : (c : K.Call) → L.number (f c) ≡ K.number c
  pub lent : (c : K.Call) → L.lent (f c) ≡ g (K.lent c)
  pub left : (c : K.Call) → L.left (f c) ≡ g (K.left c)
  pub becomes : (c : K.Call) (s t : K.State) → K.Becomes c s t → L.Becomes (f c) (g s) (g t)

module _ {K L : Kind} {f : K.Call → L.Call} {g : K.State → L.State} (m : Mirrors K L f g) where
  pub mirror_run : {s t : K.State} {cs : List K.Call} → Run K s cs t → Run L (g s) (map f cs) (g t)
  mirror_run done = done
  mirror_run (takes {t = t} {c} {cs} ok e r) =
      takes (m.numbers c ∙ ok) (m.lent c ∙ ap g e) (subst (λ u. Run L u (map f cs) (g t)) (sym (m.left c)) (mirror_run r))
  mirror_run (refused {s} {u} {c = c} bad b r) = refused (λ z. bad (sym (m.numbers c) ∙ z)) (m.becomes c s u b) (mirror_run r)

  pub mirror_accepted : (cs : List K.Call) → accepted L (map f cs) ≡ map f (accepted K cs)
  unfolding accepted
  mirror_accepted [] = refl
  mirror_accepted (c ∷ cs) = go (ℕ_discrete (K.number c) 0) (mirror_accepted cs)
    where
      go : Dec (K.number c ≡ 0) → accepted L (map f cs) ≡ map f (accepted K cs) → accepted L (f c ∷ map f cs) ≡ map f (accepted K (c ∷ cs))
      go (yes p) e = accepted_yes L (f c) (map f cs) (m.numbers c ∙ p) ∙ ap (λ l. f c ∷ l) e ∙ ap (map f) (sym (accepted_yes K c cs p))
      go (no q) e = accepted_no L (f c) (map f cs) (λ z. q (sym (m.numbers c) ∙ z)) ∙ e ∙ ap (map f) (sym (accepted_no K c cs q))
