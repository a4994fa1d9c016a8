-- The roots of y y + y = c, and the pairs of elements that are told by their sum and by the sum of their cubes.
-- Assumes nothing.
use Rattle.std.specs.Prelude.{◌≡◌, refl, Bool, true, ◌≢◌, ℕ, zero, suc, ◌<◌, T, eqb, ltb, get_or}
use Rattle.std.proofs.Common.{sym, ap, ap₂, ◌∙◌, ⊎_elim, arith, eqb→eq, ltb→lt}
use Rattle.bits.specs.Tests.{each}
use Rattle.bits.specs.Xor.{◌⊕◌}
use Rattle.bits.proofs.XorLaws.{⊕_eq, ⊕_lt, ⊕_self, sums}
use Rattle.gf256.specs.Linear.{lin, units}
use Rattle.gf256.specs.Field.{shift_a, a_columns, byte, orbit, ◌·◌, cube}
use Rattle.gf256.proofs.Field.{·_comm, ·-⊕, products}
use Rattle.locating_core.specs.Roots.{rooted}
use Rattle.gf256.proofs.PowerLaws.{no_zero_divisors, ·_lt}
use Rattle.locating_core.specs.RootLaws.{Root}

-- ---- the rule of the table of roots, computed over all of it

-- An entry is 0 or a root.
fits : ℕ → ℕ → Bool
fits c zero = true
fits c (suc y) = eqb (suc y · suc y ⊕ suc y) c

all_fit : (c : ℕ) → c < 256 → T (fits c (get_or rooted c 0))
unfolding fits rooted ◌·◌ orbit byte units shift_a a_columns lin ◌⊕◌
all_fit = each 256 (λ c. fits c (get_or rooted c 0)) tt

-- The entry is not 0 where there is a root.
all_found : (z : ℕ) → z < 256 → T (ltb 0 (get_or rooted (z · z ⊕ z) 0))
unfolding rooted ◌·◌ orbit byte units shift_a a_columns lin ◌⊕◌
all_found = each 256 (λ z. ltb 0 (get_or rooted (z · z ⊕ z) 0)) tt

fit_is : (c y : ℕ) → T (fits c y) → y ≢ 0 → y · y ⊕ y ≡ c
unfolding fits
fit_is c zero t n = absurd (n refl)
fit_is c (suc y) t n = eqb→eq (suc y · suc y ⊕ suc y) c t

pub root_at : (c : ℕ) → c < 256 → Root c (get_or rooted c 0)
root_at c h =
    record {
      found = fit_is c (get_or rooted c 0) (all_fit c h);
      none = λ e z l d.
          let p : 0 < get_or rooted (z · z ⊕ z) 0 = ltb→lt 0 (get_or rooted (z · z ⊕ z) 0) (all_found z l) in
          omega (arith, ap (λ u. get_or rooted u 0) d);
    }

-- ---- two elements with sum s, one of them s y

cube_lt : (s : ℕ) → cube s < 256
unfolding cube
cube_lt s = ·_lt s (s · s)

pub cube_positive : (s q : ℕ) → q ≡ cube s → 0 < s → s < 256 → 0 < q
unfolding cube
cube_positive s q e p h = omega (arith, three)
  where
    two : s · s ≡ 0 → ⊥
    two d = ⊎_elim (λ z. omega arith) (λ z. omega arith) (no_zero_divisors s s h h d)

    three : q ≡ 0 → ⊥
    three z = ⊎_elim (λ d. omega arith) two (no_zero_divisors s (s · s) h (·_lt s s) (sym e ∙ z))

-- The sum of their cubes.
scaled : (s y : ℕ) → cube (s · y) ⊕ cube (s · y ⊕ s) ≡ cube s · (y · y ⊕ y) ⊕ cube s
unfolding cube
scaled s y = simp products

-- It is t if y is a root for c, and only then, where c is t + s^3 over s^3.
module _ (s t c y : ℕ) (e : c · cube s ≡ t ⊕ cube s) where
  pub pair_of_root : y · y ⊕ y ≡ c → cube (s · y) ⊕ cube (s · y ⊕ s) ≡ t
  pair_of_root d =
      scaled s y ∙ ap (λ u. u ⊕ cube s) (ap (λ u. cube s · u) d ∙ ·_comm (cube s) c ∙ e) ∙ simp sums

  pub root_of_pair : 0 < s → s < 256 → c < 256 → y < 256 → cube (s · y) ⊕ cube (s · y ⊕ s) ≡ t → y · y ⊕ y ≡ c
  root_of_pair p hs hc hy d =
      ⊎_elim (λ z. absurd (omega (arith, cube_positive s (cube s) refl p hs))) (⊕_eq r c)
      (no_zero_divisors (cube s) (r ⊕ c) (cube_lt s) (⊕_lt 8 r c (⊕_lt 8 (y · y) y (·_lt y y) hy) hc) zero_product)
    where
      r : ℕ
      r = y · y ⊕ y

      again : (a b : ℕ) → a ≡ (a ⊕ b) ⊕ b
      again a b = simp sums

      same : cube s · r ≡ t ⊕ cube s
      same = again (cube s · r) (cube s) ∙ ap (λ u. u ⊕ cube s) (sym (scaled s y) ∙ d)

      zero_product : cube s · (r ⊕ c) ≡ 0
      zero_product = ·-⊕ (cube s) r c ∙ ap₂ ◌⊕◌ same (·_comm (cube s) c ∙ e) ∙ ⊕_self (t ⊕ cube s)
