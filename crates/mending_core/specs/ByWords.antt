-- Laws of S1 and S3 word by word: the sums of all words, transposed.
-- Assumes nothing.
use Rattle.std.specs.Prelude.{◌≡◌, List, ℕ, ◌+◌, ◌-◌, ◌*◌, ◌/◌, ◌%◌, ◌^◌, ◌<◌}
use Rattle.std.proofs.Common.{sym, ◌∙◌, mod-lt, pow_pos, shr-shr}
use Rattle.std.proofs.Math.Path.{ap}
use native.Mathlib.Omega.{arith}
use Rattle.std.proofs.Math.ListN.{get_or}
use Rattle.bits.specs.Bits.{bit_of, from_bits}
use Rattle.bits.proofs.BitLaws.{from_bits_ext, from_bits_bit_of}
use Rattle.bits.specs.ListLaws.{get_d_tabulate}
use Rattle.blocks.specs.MoveLaws.{moved_bit_lem}
use Rattle.permutation_core.specs.Stages.{eight_transposed}
use Rattle.permutation_core.specs.StageLaws.{cut_bit}
use Rattle.gathering_spec.specs.Collecting.{sum_bit, sum_of, paired_sum, paired_sums, S1_in, S3_in, ByWords}
use Rattle.gathering_spec.proofs.SumLaws.{upper_bit, lower_bit}

-- Byte B of a number of 64 bits.
byte_number : (v B : ℕ) → B < 8 → v / 2 ^ (56 - 8 * B) % 2 ^ 8 ≡ from_bits 8 (λ k. bit_of 64 v (8 * B + k))
unfolding bit_of
byte_number v B l =
    sym (from_bits_bit_of 8 (v / 2 ^ (56 - 8 * B) % 2 ^ 8) (mod-lt (v / 2 ^ (56 - 8 * B)) (pow_pos 8)))
    ∙ from_bits_ext 8 (bit_of 8 (v / 2 ^ (56 - 8 * B) % 2 ^ 8)) (λ k. bit_of 64 v (8 * B + k))
    (λ k lk.
    let e : 56 - 8 * B + (8 - 1 - k) ≡ 64 - 1 - (8 * B + k) = omega arith in
    ap (λ u. u % 2) (cut_bit 8 (v / 2 ^ (56 - 8 * B)) k lk ∙ ap (λ u. u % 2) (shr-shr v (56 - 8 * B) (8 - 1 - k)) ∙ ap (λ j. v / 2 ^ j % 2) e))

module _ (t b u : List ℕ) (e : b ≡ paired_sums t) (k : u ≡ eight_transposed b) where
  -- The bits of byte B of number r are those of word 8B + r, or 8B + r − 32.
  placed : (r B i : ℕ) → r < 8 → B < 8 → i < 8 → bit_of 64 (get_or u r 0) (8 * B + i) ≡ bit_of 64 (paired_sum t i) (8 * B + r)
  unfolding eight_transposed paired_sums
  placed r B i lr lB li =
      let m : (8 * B + i) % 8 ≡ i = omega arith in
      let d : (8 * B + i) / 8 * 8 + r ≡ 8 * B + r = omega arith in
      ap (λ s. bit_of 64 (get_or s r 0) (8 * B + i)) k ∙ moved_bit_lem 8 64 (λ i c. c % 8) (λ i c. c / 8 * 8 + i) b r (8 * B + i) lr (omega arith)
      ∙ rw (m, d) (ap (λ s. bit_of 64 (get_or s i 0) (8 * B + r)) e ∙ ap (λ v. bit_of 64 v (8 * B + r)) (get_d_tabulate 8 (paired_sum t) i 0 li))

  pub by_words_made : ByWords t u
  unfolding S1_in S3_in sum_of sum_bit paired_sum
  by_words_made =
      record {
        first = λ w l.
            byte_number (get_or u (w % 8) 0) (w / 8) (omega arith)
            ∙ from_bits_ext 8 (λ i. bit_of 64 (get_or u (w % 8) 0) (8 * (w / 8) + i)) (λ i. bit_of 32 (get_or t (0 + 7 - i) 0) w)
            (λ i li.
            let n : 8 * (w / 8) + w % 8 ≡ w = omega arith in
            let j : 7 - i ≡ 0 + 7 - i = omega arith in
            ap (λ v. v % 2)
            (placed (w % 8) (w / 8) i (omega arith) (omega arith) li ∙ ap (bit_of 64 (paired_sum t i)) n ∙ upper_bit 32 (get_or t (7 - i) 0) (get_or t (15 - i) 0) w l
            ∙ ap (λ i. bit_of 32 (get_or t i 0) w) j));
        third = λ w l.
            let s : 24 - 8 * (w / 8) ≡ 56 - 8 * (w / 8 + 4) = omega arith in
            ap (λ j. get_or u (w % 8) 0 / 2 ^ j % 256) s ∙ byte_number (get_or u (w % 8) 0) (w / 8 + 4) (omega arith)
            ∙ from_bits_ext 8 (λ i. bit_of 64 (get_or u (w % 8) 0) (8 * (w / 8 + 4) + i)) (λ i. bit_of 32 (get_or t (8 + 7 - i) 0) w)
            (λ i li.
            let n : 8 * (w / 8 + 4) + w % 8 ≡ 32 + w = omega arith in
            let j : 15 - i ≡ 8 + 7 - i = omega arith in
            ap (λ v. v % 2)
            (placed (w % 8) (w / 8 + 4) i (omega arith) (omega arith) li ∙ ap (bit_of 64 (paired_sum t i)) n ∙ lower_bit 32 (get_or t (7 - i) 0) (get_or t (15 - i) 0) w l
            ∙ ap (λ i. bit_of 32 (get_or t i 0) w) j));
      }
