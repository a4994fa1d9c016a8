-- Laws for code that takes the syndromes of a word from its check bits.
-- Assumes nothing.
use Rattle.std.specs.Prelude.{◌≡◌, List, ℕ, ◌-◌, ◌*◌, ◌/◌, ◌%◌, ◌^◌, ◌<◌, ◌≤◌}
use Rattle.std.proofs.Common.{sym, ap, ◌∙◌, zero-mul, arith}
use Rattle.bits.specs.Bits.{bit}
use Rattle.bits.proofs.BitLaws.{bit_lt}
use Rattle.bits.proofs.CountLaws.{count_none}
use Rattle.bits.proofs.XorLaws.{xor_sum_none}
use Rattle.gf256.specs.Field.{cube}
use Rattle.word_spec.specs.CodeWord.{Word}
use Rattle.word_spec.specs.Syndromes.{locator, syndromes_of}
use Rattle.word_spec.specs.Checks.{check, tail}
use Rattle.word_spec.proofs.CompletionLaws.{tail_low, tail_high}
use Rattle.word_spec.proofs.CheckLaws.{check_syndromes}
use Rattle.word_spec.specs.declared.Syndromes.{Syndromes}
use Rattle.word.specs.Partial.{Absorbing, partial, syndromes, syndromes_eq}

zeros_absorbed : (n : ℕ) (w : Word) → ((k : ℕ) → k < n → w k ≡ 0) → partial n w ≡ syndromes 0 0 0
unfolding partial
zeros_absorbed n w z =
    syndromes_eq (xor_sum_none n (λ k. w k * locator k) (λ k l. ap (λ u. u * locator k) (z k l) ∙ zero-mul (locator k)))
    (xor_sum_none n (λ k. w k * cube (locator k)) (λ k l. ap (λ u. u * cube (locator k)) (z k l) ∙ zero-mul (cube (locator k))))
    (ap (λ u. u % 2) (count_none n w z))

pub absorb_tail : (v : ℕ) → Absorbing (tail v) 239 (syndromes 0 0 0)
absorb_tail v = record { upto = omega arith; is = sym (zeros_absorbed 239 (tail v) (tail_low v)) }

pub tail_bit : (v k b : ℕ) → 239 ≤ k → b ≡ v / 2 ^ (255 - k) % 2 → b ≡ tail v k
tail_bit v k b l e = e ∙ sym (tail_high v k l)

pub syndromes_are : (s : List ℕ) (v : ℕ) (y : Syndromes) → (v ≡ check (bit s)) × (v < 131072) → y ≡ syndromes_of (tail v)
    → y ≡ syndromes_of (bit s)
syndromes_are s v y e f = f ∙ ap (λ u. syndromes_of (tail u)) e.0 ∙ check_syndromes (bit s) (λ k l. bit_lt s k)
