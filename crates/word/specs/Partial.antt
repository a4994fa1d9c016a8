-- The syndromes as they are gathered, one place after the other: the invariant of the pass over a word.
-- Assumes nothing.
use Rattle.std.specs.Prelude.{◌≡◌, refl, ℕ, zero, suc, ◌+◌, ◌*◌, ◌%◌, ◌<◌, ◌≤◌}
use Rattle.std.proofs.Common.{sym, ap, ap₂, ◌∙◌, zero-mul, one-mul, arith}
use Rattle.bits.specs.Count.{count}
use Rattle.bits.proofs.CountLaws.{count_suc}
use Rattle.bits.proofs.Folding.{Folding, fold_more, fold_done}
use Rattle.bits.specs.Xor.{◌⊕◌, xor_sum}
use Rattle.bits.proofs.XorLaws.{⊕_zero}
use Rattle.gf256.specs.Field.{cube}
use Rattle.word_spec.specs.CodeWord.{Word, parity}
use Rattle.word_spec.specs.Syndromes.{locator, S1, S3, syndromes_of}
use Rattle.word_spec.specs.declared.Syndromes.{Syndromes}

abbrev pub syndromes : ℕ → ℕ → ℕ → Syndromes
syndromes a b p = record { s1 = a; s3 = b; parity = p }

-- Those of the first n bits alone.
unfoldable pub partial : ℕ → Word → Syndromes
partial n w = syndromes (xor_sum n (λ k. w k * locator k)) (xor_sum n (λ k. w k * cube (locator k))) (count n w % 2)

-- Of the 256 bits of w, n are taken in.
abbrev pub Absorbing : Word → ℕ → Syndromes → Type 0
Absorbing w = Folding partial w 256

pub syndromes_eq : {a b c d p q : ℕ} → a ≡ b → c ≡ d → p ≡ q → syndromes a c p ≡ syndromes b d q
syndromes_eq e f g = rw (e, f, g)

other : (b : ℕ) → b < 2 → b ⊕ 1 ≡ (b + 1) % 2
unfolding ◌⊕◌
other zero h = refl
other (suc zero) h = refl
other (suc (suc b)) h = absurd (omega arith)

-- A bit that is not set leaves them as they are; one that is set adds the element of its place to S1 and its cube to S3, and turns the parity.
module _ (w : Word) (n : ℕ) (s : Syndromes) (h : Absorbing w n s) (l : n < 256) where
  pub absorb_zero : w n ≡ 0 → Absorbing w (n + 1) s
  unfolding partial xor_sum
  absorb_zero e = fold_more s h l (h.is ∙ syndromes_eq (none _ (locator n)) (none _ (cube (locator n))) (omega (arith, count_suc n w)))
    where
      none : (x y : ℕ) → x ≡ x ⊕ w n * y
      none x y = sym (ap (λ u. x ⊕ u) (ap (λ u. u * y) e ∙ zero-mul y) ∙ ⊕_zero x)

  pub absorb_one : (x y : ℕ) → w n ≡ 1 → x ≡ locator n → y ≡ cube x → Absorbing w (n + 1) (syndromes (s.s1 ⊕ x) (s.s3 ⊕ y) (s.parity ⊕ 1))
  unfolding partial xor_sum
  absorb_one x y e p q =
      fold_more _ h l
      (syndromes_eq (once s.s1 x (ap (λ t. t.s1) h.is) p) (once s.s3 y (ap (λ t. t.s3) h.is) (q ∙ ap cube p))
      (ap (λ u. u ⊕ 1) (ap (λ t. t.parity) h.is) ∙ turned (count n w) ∙ ap (λ u. u % 2) (sym (count_suc n w ∙ ap (λ u. count n w + u) e))))
    where
      once : {a z : ℕ} (b u : ℕ) → b ≡ a → u ≡ z → b ⊕ u ≡ a ⊕ w n * z
      once {a} {z} b u d f = ap₂ ◌⊕◌ d (f ∙ sym (ap (λ v. v * z) e ∙ one-mul z))

      turned : (m : ℕ) → m % 2 ⊕ 1 ≡ (m + 1) % 2
      turned m = other (m % 2) (omega arith) ∙ omega arith

pub absorb_done : {w : Word} {n : ℕ} {s : Syndromes} → Absorbing w n s → 256 ≤ n → s ≡ syndromes_of w
unfolding partial syndromes_of S1 S3 parity
absorb_done h l = fold_done h l
