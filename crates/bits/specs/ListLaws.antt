-- Laws of lists given by a function.
-- Assumes nothing.
use Rattle.std.specs.Prelude.{◌≡◌, List, length, get_or}
use Rattle.std.proofs.Math.Path.{refl, ap}
use Rattle.std.proofs.Common.{sym, ◌∙◌, not-suc-le-zero, le_of_suc-le-suc, arith, ext_get_or}
use Prim.Native.Nat.{ℕ, zero, suc, ◌<◌}
use Rattle.bits.specs.Lists.{tabulate}

module _ {A : Type 0} where
  pub length_tabulate : (n : ℕ) (f : ℕ → A) → length (tabulate n f) ≡ n
  unfolding tabulate
  length_tabulate zero f = refl
  length_tabulate (suc n) f = ap suc (length_tabulate n (λ k. f (suc k)))

  pub get_d_tabulate : (n : ℕ) (f : ℕ → A) (i : ℕ) (z : A) → i < n → get_or (tabulate n f) i z ≡ f i
  unfolding tabulate
  get_d_tabulate zero f i z h = absurd (not-suc-le-zero h)
  get_d_tabulate (suc n) f zero z h = refl
  get_d_tabulate (suc n) f (suc i) z h = get_d_tabulate n (λ k. f (suc k)) i z (le_of_suc-le-suc h)

  -- A list of length n with f's value at each index is `tabulate n f`.
  pub is_tabulate : (z : A) (d : List A) (n : ℕ) (f : ℕ → A) → length d ≡ n → ((k : ℕ) → k < n → get_or d k z ≡ f k) → d ≡ tabulate n f
  is_tabulate z d n f e all =
      ext_get_or z d (tabulate n f) (e ∙ sym (length_tabulate n f))
      (λ i h. let l : i < n = omega arith in all i l ∙ sym (get_d_tabulate n f i z l))

  -- Two functions that agree below n give one list.
  pub tabulate_ext : (n : ℕ) (f g : ℕ → A) → ((i : ℕ) → i < n → f i ≡ g i) → tabulate n f ≡ tabulate n g
  tabulate_ext n f g h = is_tabulate (f 0) (tabulate n f) n g (length_tabulate n f) (λ i l. get_d_tabulate n f i (f 0) l ∙ h i l)

-- Where every value is below m, so is what `get_or` gives at any index, past the end too.
pub tabulate_below : (n : ℕ) (f : ℕ → ℕ) (m : ℕ) → ((k : ℕ) → f k < m) → 0 < m → (i : ℕ) → get_or (tabulate n f) i 0 < m
unfolding tabulate
tabulate_below zero f m h p i = p
tabulate_below (suc n) f m h p zero = h zero
tabulate_below (suc n) f m h p (suc i) = tabulate_below n (λ k. f (suc k)) m (λ k. h (suc k)) p i
