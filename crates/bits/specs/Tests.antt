-- A test that the checker computes at every entry of a table, or at every number below a bound, and what it shows of each.
-- Assumes nothing.
use Rattle.std.specs.Prelude.{◌≡◌, Bool, true, false, List, [], ◌∷◌, ℕ, zero, suc, ◌+◌, ◌<◌, T, eqb, length, get_or}
use Rattle.std.proofs.Common.{◌∙◌, subst, sym, ⊎_elim, add-zero, zero-add, add-suc, suc-add, le_of_suc-le-suc, not-suc-le-zero, eq-or-lt_of_le, eqb→eq}

-- Both tests pass. (The second is not computed where the first fails.)
abbrev pub both : Bool → Bool → Bool
both true b = b
both false b = false

pub both_left : (a b : Bool) → T (both a b) → T a
both_left true b t = tt
both_left false b t = t

pub both_right : (a b : Bool) → T (both a b) → T b
both_right true b t = t
both_right false b t = absurd t

-- ---- tables

-- The test f passes at each entry of the table and its index, counted from i.
abbrev pub entries : (ℕ → ℕ → Bool) → ℕ → List ℕ → Bool
entries f i [] = true
entries f i (x ∷ xs) = both (f i x) (entries f (suc i) xs)

from : (f : ℕ → ℕ → Bool) (xs : List ℕ) (i : ℕ) → T (entries f i xs) → (k : ℕ) → k < length xs → T (f (i + k) (get_or xs k 0))
from f [] i t k h = absurd (not-suc-le-zero h)
from f (x ∷ xs) i t zero h = subst (λ (m : ℕ). T (f m x)) (sym (add-zero i)) (both_left (f i x) (entries f (suc i) xs) t)
from f (x ∷ xs) i t (suc k) h =
    subst (λ (m : ℕ). T (f m (get_or xs k 0))) (suc-add i k ∙ sym (add-suc i k))
    (from f xs (suc i) (both_right (f i x) (entries f (suc i) xs) t) k (le_of_suc-le-suc h))

-- The rule of a table, from one computed test over the whole of it.
pub entry : (f : ℕ → ℕ → Bool) (xs : List ℕ) → T (entries f 0 xs) → (k : ℕ) → k < length xs → T (f k (get_or xs k 0))
entry f xs t k h = subst (λ (m : ℕ). T (f m (get_or xs k 0))) (zero-add k) (from f xs 0 t k h)

-- ---- numbers below a bound

abbrev pub every : ℕ → (ℕ → Bool) → Bool
every zero f = true
every (suc n) f = both (f n) (every n f)

pub each : (n : ℕ) (f : ℕ → Bool) → T (every n f) → (i : ℕ) → i < n → T (f i)
each zero f t i h = absurd (not-suc-le-zero h)
each (suc n) f t i h =
    ⊎_elim (λ e. subst (λ (k : ℕ). T (f k)) (sym e) (both_left (f n) (every n f) t)) (λ l. each n f (both_right (f n) (every n f) t) i l)
    (eq-or-lt_of_le (le_of_suc-le-suc h))

-- Two functions agree below n.
pub agree : (n : ℕ) (f g : ℕ → ℕ) → T (every n (λ i. eqb (f i) (g i))) → (i : ℕ) → i < n → f i ≡ g i
agree n f g t i h = eqb→eq (f i) (g i) (each n (λ k. eqb (f k) (g k)) t i h)

-- Two functions agree at every place (i, j) of an m by n grid.
pub grid : (m n : ℕ) (f g : ℕ → ℕ → ℕ) → T (every m (λ i. every n (λ j. eqb (f i j) (g i j)))) → (i j : ℕ) → i < m → j < n → f i j ≡ g i j
grid m n f g t i j hi hj = agree n (f i) (g i) (each m (λ k. every n (λ l. eqb (f k l) (g k l))) t i hi) j hj
