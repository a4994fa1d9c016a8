-- Laws of specs/Locating.antt.
-- Assumes nothing.
use Rattle.std.specs.Prelude.{◌≡◌, Bool, ◌≢◌, ℕ, zero, suc, ◌+◌, ◌-◌, ◌*◌, ◌%◌, ◌<◌, ◌≤◌, ltb, eqb}
use Rattle.std.proofs.Math.Path.{refl, sym, ap}
use Rattle.std.proofs.Common.{◌∙◌, subst, zero-mul, one-mul, lt-ltb, le-ltb, eq-eqb, ne_eqb}
use Rattle.std.proofs.Math.Bool.{true, false, cond}
use native.Mathlib.Omega.{arith}
use Rattle.std.proofs.Math.Decide.{ℕ_discrete, dec_lt}
use Rattle.bits.specs.Bits.{flipped}
use Rattle.bits.proofs.BitLaws.{flipped_at, flipped_off}
use Rattle.bits.specs.Count.{count}
use Rattle.bits.proofs.CountLaws.{count_ext, count_suc}
use Rattle.bits.specs.Xor.{◌⊕◌, xor_sum}
use Rattle.bits.proofs.XorLaws.{⊕_zero, zero_⊕, ⊕_self, ⊕_eq, sums, xor_sum_⊕, xor_sum_ext, xor_sum_one}
use Rattle.gf256.specs.Field.{cube}
use Rattle.word_spec.specs.CodeWord.{Word, parity, CodeWord}
use Rattle.word_spec.specs.Syndromes.{locator, S1, S3, syndromes_of}
use Rattle.word_spec.proofs.SyndromeLaws.{code_S1, code_S3, zero_code}
use Rattle.word_spec.specs.Repair.{places, flip_all, repaired, repair}
use Rattle.word_spec.specs.Search.{Allowed}
use Rattle.word_spec.proofs.RepairLaws.{Bits, repaired_bits}
use Rattle.word_spec.proofs.RepairTheorems.{allowed_low, unique, repair_is, repair_none}
use Rattle.word_spec.specs.declared.Repair.{Repair}
use Rattle.word_spec.specs.declared.Repair.TheVariants.{Sound, One, Two, Lost}
use Rattle.word_spec.specs.Locating.{Fits, Located, confined}

-- ---- a flipped bit, in the sums and in the parity

sum_flip : (q : ℕ → ℕ) (i : ℕ) (w : Word) → Bits w → i < 256 → xor_sum 256 (λ k. flipped i w k * q k) ≡ xor_sum 256 (λ k. w k * q k) ⊕ q i
sum_flip q i w b l =
    xor_sum_ext 256 (λ k. flipped i w k * q k) (λ k. w k * q k ⊕ u k) (λ k h. by k h (ℕ_discrete k i)) ∙ xor_sum_⊕ 256 (λ k. w k * q k) u
    ∙ ap (λ x. xor_sum 256 (λ k. w k * q k) ⊕ x) (xor_sum_one 256 i u l (λ k h n. simp (ne_eqb k i n)) ∙ simp (eq-eqb i i refl))
  where
    u : ℕ → ℕ
    u k = cond (eqb k i) (q i) 0

    turn : (x y : ℕ) → x < 2 → (1 - x) * y ≡ x * y ⊕ y
    turn zero y h = rw (one-mul y, zero-mul y) (sym (zero_⊕ y))
    turn (suc zero) y h = rw (one-mul y, zero-mul y) (sym (⊕_self y))
    turn (suc (suc x)) y h = absurd (omega arith)

    by : (k : ℕ) → k < 256 → Dec (k ≡ i) → flipped i w k * q k ≡ w k * q k ⊕ u k
    by k h (yes e) = rw (e, flipped_at i w) (turn (w i) (q i) (b i l) ∙ sym (ap (λ x. w i * q i ⊕ x) (simp (eq-eqb i i refl))))
    by k h (no n) = rw (flipped_off i w k n) (sym (ap (λ x. w k * q k ⊕ x) (simp (ne_eqb k i n)) ∙ ⊕_zero (w k * q k)))

pub count_flip : (n i : ℕ) (w : Word) → i < n → w i < 2 → count n (flipped i w) + w i ≡ count n w + (1 - w i)
count_flip zero i w l b = absurd (omega arith)
count_flip (suc n) i w l b = go (ℕ_discrete i n) (λ m. count_flip n i w m b)
  where
    go : Dec (i ≡ n) → (i < n → count n (flipped i w) + w i ≡ count n w + (1 - w i))
        → count (suc n) (flipped i w) + w i ≡ count (suc n) w + (1 - w i)
    go (yes e) rest =
        omega (
          arith,
          count_suc n (flipped i w),
          count_suc n w,
          count_ext n (flipped i w) w (λ k h. flipped_off i w k (omega arith)),
          ap (flipped i w) (sym e),
          flipped_at i w,
          ap w e,
        )
    go (no d) rest = omega (arith, rest (omega arith), count_suc n (flipped i w), count_suc n w, flipped_off i w n (omega arith))

pub parity_flip : (i : ℕ) (w : Word) → i < 256 → w i < 2 → (parity (flipped i w) + parity w) % 2 ≡ 1
unfolding parity
parity_flip i w l b = omega (arith, count_flip 256 i w l b)

pub parity_lt : (w : Word) → parity w < 2
unfolding parity
parity_lt w = omega arith

S1_flip : (i : ℕ) (w : Word) → Bits w → i < 256 → S1 (flipped i w) ≡ S1 w ⊕ locator i
unfolding S1
S1_flip i w b l = sum_flip locator i w b l

S3_flip : (i : ℕ) (w : Word) → Bits w → i < 256 → S3 (flipped i w) ≡ S3 w ⊕ cube (locator i)
unfolding S3
S3_flip i w b l = sum_flip (λ k. cube (locator k)) i w b l

module _ (w : Word) (b : Bits w) where
  flip_bits : (i : ℕ) → Bits (flipped i w)
  unfolding repaired places flip_all
  flip_bits i k l = repaired_bits (One i) w k (b k l)

  -- A repair that yields a code word fits the syndromes, and the other way.
  pub code_fits : (r : Repair) → Allowed 0 r → CodeWord (repaired r w) → Fits (syndromes_of w) r
  unfolding repaired places flip_all syndromes_of
  code_fits Sound t C = (code_S1 w C, code_S3 w C, C.even)
  code_fits (One i) t C = (
    ⊕_eq (S1 w) (locator i) (sym (S1_flip i w b t.1) ∙ code_S1 (flipped i w) C),
    ⊕_eq (S3 w) (cube (locator i)) (sym (S3_flip i w b t.1) ∙ code_S3 (flipped i w) C),
    omega (arith, parity_flip i w t.1 (b i t.1), C.even, parity_lt w),
  )
  code_fits (Two i j) t C =
      let li : i < 256 = omega (arith, t.1, t.2) in
      let bj = flip_bits j in (
        two (S1 w) (locator i) (locator j) (ap (λ u. u ⊕ locator i) (sym (S1_flip j w b t.2)) ∙ sym (S1_flip i (flipped j w) bj li) ∙ code_S1 (flipped i (flipped j w)) C),
        two (S3 w) (cube (locator i)) (cube (locator j)) (ap (λ u. u ⊕ cube (locator i)) (sym (S3_flip j w b t.2)) ∙ sym (S3_flip i (flipped j w) bj li) ∙ code_S3 (flipped i (flipped j w)) C),
        omega (arith, parity_flip j w t.2 (b j t.2), parity_flip i (flipped j w) li (bj i li), C.even, parity_lt w, parity_lt (flipped j w)),
      )
    where
      two : (s x y : ℕ) → (s ⊕ y) ⊕ x ≡ 0 → s ≡ x ⊕ y
      two s x y e = ⊕_eq s (x ⊕ y) (regroup s x y ∙ e)
        where
          regroup : (s x y : ℕ) → s ⊕ (x ⊕ y) ≡ (s ⊕ y) ⊕ x
          regroup s x y = simp sums
  code_fits Lost t C = absurd t

  pub fits_code : (r : Repair) → Allowed 0 r → Fits (syndromes_of w) r → CodeWord (repaired r w)
  unfolding repaired places flip_all syndromes_of
  fits_code Sound t f = zero_code w b f.0 f.1 f.2
  fits_code (One i) t f =
      zero_code (flipped i w) (flip_bits i) (S1_flip i w b t.1 ∙ ap (λ u. u ⊕ locator i) f.0 ∙ ⊕_self (locator i))
      (S3_flip i w b t.1 ∙ ap (λ u. u ⊕ cube (locator i)) f.1 ∙ ⊕_self (cube (locator i)))
      (omega (arith, parity_flip i w t.1 (b i t.1), f.2, parity_lt (flipped i w)))
  fits_code (Two i j) t f =
      let li : i < 256 = omega (arith, t.1, t.2) in
      let bj = flip_bits j in
      zero_code (flipped i (flipped j w)) (λ k l. repaired_bits (One i) (flipped j w) k (bj k l))
      (S1_flip i (flipped j w) bj li ∙ ap (λ u. u ⊕ locator i) (S1_flip j w b t.2 ∙ ap (λ u. u ⊕ locator j) f.0) ∙ gone (locator i) (locator j))
      (S3_flip i (flipped j w) bj li ∙ ap (λ u. u ⊕ cube (locator i)) (S3_flip j w b t.2 ∙ ap (λ u. u ⊕ cube (locator j)) f.1) ∙ gone (cube (locator i)) (cube (locator j)))
      (omega (arith, parity_flip j w t.2 (b j t.2), parity_flip i (flipped j w) li (bj i li), f.2, parity_lt (flipped j w), parity_lt (flipped i (flipped j w))))
    where
      gone : (x y : ℕ) → ((x ⊕ y) ⊕ y) ⊕ x ≡ 0
      gone x y = simp sums
  fits_code Lost t f = absurd f

pub one_lost : (i : ℕ) → One i ≢ Lost
one_lost i e = let z : ◌≡◌ {A = ℕ} 0 1 = cc in omega arith

pub two_lost : (i j : ℕ) → Two i j ≢ Lost
two_lost i j e = let z : ◌≡◌ {A = ℕ} 0 1 = cc in omega arith

pub sound_lost : Sound ≢ Lost
sound_lost e = let z : ◌≡◌ {A = ℕ} 0 1 = cc in omega arith

module _ (w : Word) (b : Bits w) where
  -- The one repair that yields a code word has a place in the front half: so without the front there is none.
  no_other : (r : Repair) → Allowed 0 r → CodeWord (repaired r w) → (Allowed 128 r → ⊥) → repair false w ≡ Lost
  no_other r t C n =
      repair_none false w b
      (λ q u D. n (subst (Allowed 128) (unique true w b q r (allowed_low false q u) t D C) u))

  pub located_repair : (front : Bool) (r : Repair) → Located (syndromes_of w) r → repair front w ≡ confined front r
  unfolding confined
  located_repair true Sound L =
      let f = L.found sound_lost in repair_is true w b Sound tt (fits_code w b Sound tt f.1)
  located_repair true (One i) L =
      let f = L.found (one_lost i) in repair_is true w b (One i) f.0 (fits_code w b (One i) f.0 f.1)
  located_repair true (Two i j) L =
      let f = L.found (two_lost i j) in repair_is true w b (Two i j) f.0 (fits_code w b (Two i j) f.0 f.1)
  located_repair true Lost L = repair_none true w b (λ q u D. L.none refl q u (code_fits w b q u D))
  located_repair false Sound L =
      let f = L.found sound_lost in repair_is false w b Sound tt (fits_code w b Sound tt f.1)
  located_repair false (One i) L = go (dec_lt i 128) (L.found (one_lost i))
    where
      go : Dec (i < 128) → Allowed 0 (One i) × Fits (syndromes_of w) (One i) → repair false w ≡ cond (ltb i 128) Lost (One i)
      go (yes l) f = no_other (One i) f.0 (fits_code w b (One i) f.0 f.1) (λ u. omega (arith, u.0)) ∙ simp (lt-ltb i 128 l)
      go (no n) f =
          let m : 128 ≤ i = omega arith in
          repair_is false w b (One i) (m, f.0.1) (fits_code w b (One i) f.0 f.1) ∙ simp (le-ltb i 128 m)
  located_repair false (Two i j) L = go (dec_lt i 128) (L.found (two_lost i j))
    where
      go : Dec (i < 128) → Allowed 0 (Two i j) × Fits (syndromes_of w) (Two i j) → repair false w ≡ cond (ltb i 128) Lost (Two i j)
      go (yes l) f = no_other (Two i j) f.0 (fits_code w b (Two i j) f.0 f.1) (λ u. omega (arith, u.0)) ∙ simp (lt-ltb i 128 l)
      go (no n) f =
          let m : 128 ≤ i = omega arith in
          repair_is false w b (Two i j) (m, f.0.1, f.0.2) (fits_code w b (Two i j) f.0 f.1) ∙ simp (le-ltb i 128 m)
  located_repair false Lost L =
      repair_none false w b (λ q u D. L.none refl q (allowed_low false q u) (code_fits w b q (allowed_low false q u) D))
