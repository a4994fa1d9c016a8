-- Laws of the least number that passes a test.
-- Assumes nothing.
use Rattle.std.specs.Prelude.{◌≡◌, refl, Bool, true, false, cond, ℕ, zero, suc, ◌<◌, ◌≤◌, eqb}
use Rattle.std.proofs.Common.{ap, ap₂, not-suc-le-zero, le_of_suc-le-suc, arith, eq-eqb, eqb-true}
use Rattle.bits.specs.Tests.{both}
use Rattle.bits.specs.Least.{least}

-- A number that passes, and none below it does.
pub least_is : (n : ℕ) (p : ℕ → Bool) (i : ℕ) → i < n → p i ≡ true → ((k : ℕ) → k < i → p k ≡ false) → least n p ≡ i
unfolding least
least_is zero p i l e none = absurd (not-suc-le-zero l)
least_is (suc n) p zero l e none = simp e
least_is (suc n) p (suc i) l e none =
    let z : p 0 ≡ false = none 0 (omega arith) in
    simp z (ap suc (least_is n (λ k. p (suc k)) i (le_of_suc-le-suc l) e (λ k lk. none (suc k) (omega arith))))

-- Where none passes it is n, and where it is n none passes.
pub least_none : (n : ℕ) (p : ℕ → Bool) → ((k : ℕ) → k < n → p k ≡ false) → least n p ≡ n
unfolding least
least_none zero p none = refl
least_none (suc n) p none =
    let z : p 0 ≡ false = none 0 (omega arith) in
    simp z (ap suc (least_none n (λ k. p (suc k)) (λ k l. none (suc k) (omega arith))))

pub least_past : (n : ℕ) (p : ℕ → Bool) → n ≤ least n p → (k : ℕ) → k < n → p k ≡ false
unfolding least
least_past zero p h k l = absurd (not-suc-le-zero l)
least_past (suc n) p h k l = step (p zero) refl (least_past n (λ i. p (suc i))) h k l
  where
    step : (b : Bool) → p zero ≡ b → (n ≤ least n (λ i. p (suc i)) → (j : ℕ) → j < n → p (suc j) ≡ false)
        → suc n ≤ cond b 0 (suc (least n (λ i. p (suc i)))) → (i : ℕ) → i < suc n → p i ≡ false
    step true e r g i li = absurd (not-suc-le-zero g)
    step false e r g zero li = e
    step false e r g (suc i) li = r (le_of_suc-le-suc g) i (le_of_suc-le-suc li)

-- Where it is below n it passes, and none below it does.
pub least_passes : (n : ℕ) (p : ℕ → Bool) → least n p < n → p (least n p) ≡ true
unfolding least
least_passes zero p h = absurd (not-suc-le-zero h)
least_passes (suc n) p h = step (p zero) refl (least_passes n (λ i. p (suc i))) h
  where
    m : ℕ
    m = least n (λ i. p (suc i))

    step : (b : Bool) → p zero ≡ b → (m < n → p (suc m) ≡ true) → cond b 0 (suc m) < suc n → p (cond b 0 (suc m)) ≡ true
    step true e r g = e
    step false e r g = r (le_of_suc-le-suc g)

pub least_before : (n : ℕ) (p : ℕ → Bool) (k : ℕ) → k < least n p → p k ≡ false
unfolding least
least_before zero p k l = absurd (not-suc-le-zero l)
least_before (suc n) p k l = step (p zero) refl (least_before n (λ i. p (suc i))) k l
  where
    m : ℕ
    m = least n (λ i. p (suc i))

    step : (b : Bool) → p zero ≡ b → ((j : ℕ) → j < m → p (suc j) ≡ false) → (i : ℕ) → i < cond b 0 (suc m) → p i ≡ false
    step true e r i li = absurd (not-suc-le-zero li)
    step false e r zero li = e
    step false e r (suc i) li = r i (le_of_suc-le-suc li)

-- The only number below n that passes.
pub least_only : (n : ℕ) (p : ℕ → Bool) (k : ℕ) → k < n → p k ≡ true → ((j : ℕ) → j < n → p j ≡ true → j ≡ k) → least n p ≡ k
least_only n p k l e only = least_is n p k l e (λ j lj. fails j lj (p j) refl)
  where
    fails : (j : ℕ) → j < k → (t : Bool) → p j ≡ t → p j ≡ false
    fails j lj true h = absurd (let s : j ≡ k = only j (omega arith) h in omega arith)
    fails j lj false h = h

-- Two tests of equality passed are two equations.
both_equal : (a b c d : ℕ) → a ≡ b → c ≡ d → both (eqb a b) (eqb c d) ≡ true
both_equal a b c d p q = rw (eq-eqb a b p) (eq-eqb c d q)

equal_left : (a b c d : ℕ) → both (eqb a b) (eqb c d) ≡ true → a ≡ b
equal_left a b c d h = go (eqb a b) refl h
  where
    go : (t : Bool) → eqb a b ≡ t → both t (eqb c d) ≡ true → a ≡ b
    go true e q = eqb-true a b e
    go false e q = absurd (let z : ◌≡◌ {A = Bool} false true = q in lies z)
      where
        lies : false ≡ true → ⊥
        lies z = let n : ◌≡◌ {A = ℕ} 0 1 = cc in omega arith

equal_right : (a b c d : ℕ) → both (eqb a b) (eqb c d) ≡ true → c ≡ d
equal_right a b c d h = eqb-true c d (rw (eq-eqb a b (equal_left a b c d h)) at h)

-- The only number below n at which two functions have given values.
pub least_pair : (n : ℕ) (f g : ℕ → ℕ) (a b k : ℕ) → k < n → f k ≡ a → g k ≡ b → ((j : ℕ) → j < n → f j ≡ a → g j ≡ b → j ≡ k)
    → least n (λ j. both (eqb (f j) a) (eqb (g j) b)) ≡ k
least_pair n f g a b k l p q only =
    least_only n (λ j. both (eqb (f j) a) (eqb (g j) b)) k l (both_equal (f k) a (g k) b p q)
    (λ j lj h. only j lj (equal_left (f j) a (g j) b h) (equal_right (f j) a (g j) b h))

-- Tests that agree have one least number.
pub least_ext : (n : ℕ) (p q : ℕ → Bool) → ((k : ℕ) → k < n → p k ≡ q k) → least n p ≡ least n q
unfolding least
least_ext zero p q same = refl
least_ext (suc n) p q same =
    ap₂ (λ b m. cond b 0 (suc m)) (same 0 (omega arith)) (least_ext n (λ k. p (suc k)) (λ k. q (suc k)) (λ k l. same (suc k) (omega arith)))
