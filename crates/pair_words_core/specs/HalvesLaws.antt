-- What is gathered from the back halves of the repaired words, in numbers of sixteen bits, is the newest pair and the payload.
-- Assumes nothing.
use Rattle.std.specs.Prelude.{◌≡◌, List, ℕ, ◌+◌, ◌*◌, ◌/◌, ◌%◌, ◌<◌, get_or}
use Rattle.std.proofs.Common.{ap, ◌∙◌, arith}
use Rattle.bits.specs.Bits.{bit_of}
use Rattle.bits.proofs.BitLaws.{bit_of_from_bits}
use Rattle.bits.specs.ListLaws.{get_d_tabulate}
use Rattle.word_spec.specs.CodeWord.{Word}
use Rattle.pair_spec.specs.Receiving.{repaired_word, payload_out}
use Rattle.pair_words_core.specs.BackHalves.{back_halves, OfBits, back_bits, repaired_bits, payload_gathered}
use Rattle.pair_words_core.specs.Halves.{word_half, word_halves, halves_bit, payload_in}

-- A bit of them.
pub halves_bit_lem : (words : ℕ → Word) → OfBits words → (s : List ℕ) → s ≡ word_halves words → (m : ℕ) → m < 4096
    → halves_bit s m ≡ back_halves words m
unfolding halves_bit word_halves word_half back_halves
halves_bit_lem words bits s e m l =
    let d : m / 16 / 8 ≡ m / 128 = omega arith in
    let c : 16 * (m / 16 % 8) + ((m + 8) % 16 + 8) % 16 ≡ m % 128 = omega arith in
    ap (λ t. bit_of 16 (get_or t (m / 16) 0) ((m + 8) % 16)) e
    ∙ ap (λ x. bit_of 16 x ((m + 8) % 16)) (get_d_tabulate 256 (word_half words) (m / 16) 0 (omega arith))
    ∙ bit_of_from_bits 16 (λ k. words (m / 16 / 8) (128 + (16 * (m / 16 % 8) + (k + 8) % 16))) ((m + 8) % 16) (omega arith)
    ∙ rw (d, c) (back_bits words bits m l)

module _ (n : ℕ) (h : List ℕ) (P : ℕ) (p s : List ℕ) (e : s ≡ word_halves (repaired_word n h P p)) where
  repaired_bit : (m : ℕ) → m < 4096 → halves_bit s m ≡ back_halves (repaired_word n h P p) m
  repaired_bit = halves_bit_lem (repaired_word n h P p) (repaired_bits n h P p) s e

  pub payload_of_halves : (y : List ℕ) → y ≡ payload_in s → y ≡ payload_out n h P p
  unfolding payload_out payload_in
  payload_of_halves y g = g ∙ payload_gathered (repaired_word n h P p) (halves_bit s) repaired_bit
