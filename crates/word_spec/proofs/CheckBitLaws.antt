-- The last 17 bits of a completion from the syndromes and the parity of what it completes.
-- Assumes nothing.
use Rattle.std.specs.Prelude.{◌≡◌, refl, ℕ, suc, ◌+◌, ◌-◌, ◌/◌, ◌%◌, ◌^◌, ◌<◌, ◌≤◌}
use Rattle.std.proofs.Math.Path.{sym, ap}
use Rattle.std.proofs.Common.{◌∙◌, arith}
use Rattle.bits.specs.Xor.{◌⊕◌, xor_sum}
use Rattle.bits.proofs.XorLaws.{sums, ⊕_eq, ⊕_zero, xor_sum_ext, xor_sum_none, xor_sum_split}
use Rattle.gf256.specs.Linear.{lin}
use Rattle.word_spec.specs.CodeWord.{Word, parity}
use Rattle.word_spec.specs.Completion.{first_bits, completed}
use Rattle.word_spec.proofs.CompletionLaws.{first_low, first_high, first_bits_lem, with_high, completed_low, completed_first, completed_code}
use Rattle.word_spec.proofs.CheckLaws.{parity_sum}
use Rattle.word_spec.specs.Syndromes.{S1, S3, S1_checks, S3_checks}
use Rattle.word_spec.proofs.SyndromeLaws.{remainder_syndromes}

one_more : (n : ℕ) (f : ℕ → ℕ) → xor_sum (suc n) f ≡ xor_sum n f ⊕ f n
unfolding xor_sum
one_more n f = refl

rest : (a b x : ℕ) → a ⊕ (b ⊕ x) ≡ 0 → x ≡ b ⊕ a
rest a b x e = sym (⊕_eq (b ⊕ a) x (simp sums e))

module _ (w : Word) (b : (k : ℕ) → k < 239 → w k < 2) where
  -- Bits 239 to 254,
  pub check_bits : (k : ℕ) → 239 ≤ k → k < 255
      → completed w k ≡ (lin S1_checks (S1 (first_bits w)) ⊕ lin S3_checks (S3 (first_bits w))) / 2 ^ (254 - k) % 2
  check_bits k l m =
      completed_low w k m ∙ with_high w k l
      ∙ ap (λ r. r / 2 ^ (254 - k) % 2) (remainder_syndromes (first_bits w) (λ j lj. first_bits_lem w b j))

  -- and bit 255.
  pub check_parity : completed w 255 ≡ xor_sum 16 (λ i. completed w (239 + i)) ⊕ parity (first_bits w)
  unfolding parity
  check_parity =
      rest (xor_sum 239 (completed w)) (xor_sum 16 (λ i. completed w (239 + i))) (completed w 255)
      (ap (λ u. xor_sum 239 (completed w) ⊕ u) (sym (one_more 16 (λ i. completed w (239 + i)))) ∙ sym (xor_sum_split 239 17 (completed w)) ∙ even)
      ∙ ap (λ u. xor_sum 16 (λ i. completed w (239 + i)) ⊕ u) (same ∙ first)
    where
      same : xor_sum 239 (completed w) ≡ xor_sum 239 (first_bits w)
      same = xor_sum_ext 239 (completed w) (first_bits w) (λ k l. completed_first w k l ∙ sym (first_low w k l))

      even : xor_sum 256 (completed w) ≡ 0
      even = sym (parity_sum 256 (completed w) (completed_code w b).bits) ∙ (completed_code w b).even

      first : xor_sum 239 (first_bits w) ≡ parity (first_bits w)
      first =
          sym (xor_sum_split 239 17 (first_bits w) ∙ ap (λ u. xor_sum 239 (first_bits w) ⊕ u) (xor_sum_none 17 (λ i. first_bits w (239 + i)) (λ i l. first_high w (239 + i) (omega arith))) ∙ ⊕_zero (xor_sum 239 (first_bits w)))
          ∙ sym (parity_sum 256 (first_bits w) (λ k l. first_bits_lem w b k))
