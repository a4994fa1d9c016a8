-- Laws for code that finds the places from the syndromes.
-- Assumes nothing.
use Rattle.std.specs.Prelude.{◌≡◌, refl, ◌≢◌, ℕ, ◌-◌, ◌<◌, ◌≤◌, get_or}
use Rattle.std.proofs.Common.{sym, ap, ap₂, ◌∙◌, arith, min, max}
use Rattle.std.proofs.Math.Decide.{dec_lt}
use Rattle.bits.specs.Xor.{◌⊕◌}
use Rattle.bits.proofs.XorLaws.{⊕_self, ⊕_eq, ⊕_cancel, ⊕_comm}
use Rattle.gf256.specs.Field.{◌·◌, cube}
use Rattle.gf256.specs.Tables.{powers}
use Rattle.locating_core.specs.RootLaws.{Root}
use Rattle.locating_core.proofs.RootLaws.{pair_of_root, root_of_pair}
use Rattle.gf256.proofs.PowerLaws.{over}
use Rattle.word_spec.specs.Syndromes.{locator}
use Rattle.word_spec.proofs.SyndromeLaws.{locator_entry, locator_end}
use Rattle.word_spec.proofs.Distance.{locator_eq, locator_lt}
use Rattle.word_spec.specs.Search.{Allowed}
use Rattle.word_spec.specs.Locating.{Fits, Located}
use Rattle.word_spec.proofs.Locating.{two_lost}
use Rattle.word_spec.specs.declared.Repair.{Repair}
use Rattle.word_spec.specs.declared.Repair.TheVariants.{Sound, One, Two, Lost}
use Rattle.word_spec.specs.declared.Syndromes.{Syndromes}

-- ---- an element and its place

pub place_zero : (x : ℕ) → x ≡ 0 → locator 255 ≡ x
place_zero x e = sym (e ∙ locator_end 255 (omega arith))

pub place_log : (x k : ℕ) → k < 255 → get_or powers k 0 ≡ x → locator (254 - k) ≡ x
place_log x k l e =
    let d : 254 - (254 - k) ≡ k = omega arith in locator_entry (254 - k) (omega arith) ∙ ap (λ i. get_or powers i 0) d ∙ e

pub ruleset placing = (place_zero, place_log)

-- ---- what fits, and where nothing does

this_fits : (s : Syndromes) (r : Repair) → r ≢ Lost → Allowed 0 r → Fits s r → Located s r
this_fits s r n t f = record { found = λ _. (t, f); none = λ e. absurd (n e) }

none_fits : (s : Syndromes) → ((q : Repair) → Allowed 0 q → Fits s q → ⊥) → Located s Lost
none_fits s f = record { found = λ n. absurd (n refl); none = λ _. f }

-- ---- no place

pub even_none : (s : Syndromes) → s.parity ≡ 0 → s.s1 ≡ 0 → (s.s3 ≡ 0 → ⊥) → Located s Lost
even_none s o e d = none_fits s go
  where
    go : (q : Repair) → Allowed 0 q → Fits s q → ⊥
    go Sound t f = d f.1
    go (One i) t f = omega (arith, f.2)
    go (Two i j) t f =
        let z : i ≡ j = locator_eq i j (omega (arith, t.1, t.2)) t.2 (⊕_eq (locator i) (locator j) (sym f.0 ∙ e)) in omega (arith, t.1)
    go Lost t f = f

-- ---- two places

-- They are told by the roots for c, which is S3 + S1^3 over S1^3.
module _ (s : Syndromes) (even : s.parity ≡ 0) (p : 0 < s.s1) (h : s.s1 < 256) (q c y : ℕ) (eq : q ≡ cube s.s1) (ec : c · q ≡ s.s3 ⊕ q) (hc : c < 256) (root : Root c y) where
  quotient : c · cube s.s1 ≡ s.s3 ⊕ cube s.s1
  quotient = rw eq at ec

  pub two_none : y ≡ 0 → Located s Lost
  two_none e = none_fits s go
    where
      pair : (i j : ℕ) → i < 256 → s.s1 ≡ locator i ⊕ locator j → s.s3 ≡ cube (locator i) ⊕ cube (locator j) → ⊥
      pair i j l e1 e3 =
          let z = over (locator i) s.s1 (locator_lt i l) p h in
          root.none e z.value z.small
          (root_of_pair s.s1 s.s3 c z.value quotient p h hc z.small
          (ap (λ u. cube u ⊕ cube (u ⊕ s.s1)) z.times ∙ ap (λ u. cube (locator i) ⊕ cube u) (ap (λ u. locator i ⊕ u) e1 ∙ ⊕_cancel (locator i) (locator j)) ∙ sym e3))

      go : (q : Repair) → Allowed 0 q → Fits s q → ⊥
      go Sound t f = omega (arith, f.0)
      go (One i) t f = omega (arith, f.2)
      go (Two i j) t f = pair i j (omega (arith, t.1, t.2)) f.0 f.1
      go Lost t f = f

  -- Where y is a root, x = S1 y is the locator of the one, and x + S1 that of the other.
  module _ (n : y ≡ 0 → ⊥) (x i j : ℕ) (ex : x ≡ s.s1 · y) (hi : i < 256) (ei : locator i ≡ x) (hj : j < 256) (ej : locator j ≡ x ⊕ s.s1) where
    sum : s.s1 ≡ locator i ⊕ locator j
    sum = sym (ap₂ ◌⊕◌ ei ej ∙ ⊕_cancel x s.s1)

    cubes : s.s3 ≡ cube (locator i) ⊕ cube (locator j)
    cubes =
        sym
        (ap₂ (λ (u v : ℕ). cube u ⊕ cube v) ei ej ∙ ap (λ u. cube u ⊕ cube (u ⊕ s.s1)) ex
        ∙ pair_of_root s.s1 s.s3 c y quotient (root.found n))

    apart : i ≡ j → ⊥
    apart e = omega (arith, sum ∙ ap (λ k. locator i ⊕ locator k) (sym e) ∙ ⊕_self (locator i))

    rising : i < j → Located s (Two i j)
    rising l = this_fits s (Two i j) (two_lost i j) (omega arith, l, hj) (sum, cubes, even)

    falling : j ≤ i → Located s (Two j i)
    falling l =
        this_fits s (Two j i) (two_lost j i) (omega arith, omega (arith, apart), hi)
        (sum ∙ ⊕_comm (locator i) (locator j), cubes ∙ ⊕_comm (cube (locator i)) (cube (locator j)), even)

    pub two_found : Located s (Two (min i j) (max i j))
    two_found = go (dec_lt i j)
      where
        go : Dec (i < j) → Located s (Two (min i j) (max i j))
        go (yes l) =
            let e : min i j ≡ i = omega arith in
            let f : max i j ≡ j = omega arith in
            rw (e, f) (rising l)
        go (no n) =
            let e : min i j ≡ j = omega arith in
            let f : max i j ≡ i = omega arith in
            rw (e, f) (falling (omega arith))
