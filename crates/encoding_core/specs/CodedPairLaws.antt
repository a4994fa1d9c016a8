-- Words whose columns were exchanged, written as bytes, are the coded pair of the words.
-- Assumes nothing.
use Rattle.std.specs.Prelude.{◌≡◌, List, ℕ, ◌+◌, ◌-◌, ◌*◌, ◌/◌, ◌%◌, ◌<◌, ◌≤◌, get_or}
use Rattle.std.proofs.Math.Path.{refl, ap}
use Rattle.std.proofs.Common.{sym, ◌∙◌}
use native.Mathlib.Omega.{arith}
use Rattle.bits.specs.Bits.{bit_of, byte_of, pack}
use Rattle.bits.proofs.BitLaws.{bit_of_lt, bit_of_from_bits, from_bits_ext}
use Rattle.bits.specs.Lists.{tabulate}
use Rattle.bits.specs.ListLaws.{get_d_tabulate, tabulate_ext}
use Rattle.bits.specs.Xor.{◌⊕◌}
use Rattle.bits.proofs.XorLaws.{⊕_lt}
use Rattle.blocks.specs.SideBySide.{word_byte}
use Rattle.word_spec.specs.CodeWord.{Word}
use Rattle.pair_spec.specs.Pairs.{coded_pair}
use Rattle.pair_words_core.specs.BackHalves.{back_halves, coded_source, OfBits, coded_gathered}
use Rattle.pair_words_core.specs.Halves.{word_half, word_halves}
use Rattle.rows_core.specs.RowWords.{exchanged_number, exchanged}
use Rattle.rows_core.specs.RowWordLaws.{turned_exchanged}

-- Column c of a word as it is written, of the two bytes that lie in memory.
turned_back : (h k : ℕ) → h < 2 → k < 8 → (8 * (1 - h) + k + 8) % 16 ≡ 8 * h + k
turned_back h k lh lk = omega arith

module _ (words : ℕ → Word) (bits : OfBits words) (halves : List ℕ) (e : halves ≡ word_halves words) where
  -- Bit k of byte h of number 8w+C.
  written_bit : (w C h k : ℕ) → w < 32 → C < 8 → h < 2 → k < 8
      → bit_of 16 (get_or (exchanged halves) (8 * w + C) 0) (8 * (1 - h) + k) ≡ words w (128 + (16 * C + ((8 * h + k) ⊕ (w % 16))))
  unfolding exchanged exchanged_number word_halves word_half
  written_bit w C h k lw lC lh lk =
      let c : 8 * (1 - h) + k < 16 = omega arith in
      let r : w % 16 < 16 = omega arith in
      let x : (8 * (1 - h) + k) ⊕ (w % 16) < 16 = ⊕_lt 4 (8 * (1 - h) + k) (w % 16) c r in
      let d : (8 * w + C) / 8 ≡ w = omega arith in
      let m : (8 * w + C) % 8 ≡ C = omega arith in
      let t : (((8 * (1 - h) + k) ⊕ (w % 16)) + 8) % 16 ≡ (8 * h + k) ⊕ (w % 16) =
      turned_exchanged (w % 16) (8 * (1 - h) + k) r c ∙ ap (λ u. u ⊕ (w % 16)) (turned_back h k lh lk) in
      ap (λ u. bit_of 16 u (8 * (1 - h) + k)) (get_d_tabulate 256 (exchanged_number halves) (8 * w + C) 0 (omega arith))
      ∙ bit_of_from_bits 16 (λ c. bit_of 16 (get_or halves (8 * w + C) 0) (c ⊕ ((8 * w + C) / 8 % 16))) (8 * (1 - h) + k) c
      ∙ rw d
      (omega (arith, bit_of_lt 16 (get_or halves (8 * w + C) 0) ((8 * (1 - h) + k) ⊕ (w % 16)))
      ∙ ap (λ u. bit_of 16 (get_or u (8 * w + C) 0) ((8 * (1 - h) + k) ⊕ (w % 16))) e
      ∙ ap (λ u. bit_of 16 u ((8 * (1 - h) + k) ⊕ (w % 16))) (get_d_tabulate 256 (word_half words) (8 * w + C) 0 (omega arith))
      ∙ bit_of_from_bits 16 (λ c. words ((8 * w + C) / 8) (128 + (16 * ((8 * w + C) % 8) + (c + 8) % 16))) ((8 * (1 - h) + k) ⊕ (w % 16)) x
      ∙ rw (d, m, t) (omega (arith, bits w (128 + (16 * C + ((8 * h + k) ⊕ (w % 16)))) lw (omega (arith, ⊕_lt 4 (8 * h + k) (w % 16) (omega arith) r)))))

  -- It is a bit of the coded pair.
  coded_bit_lem : (j k : ℕ) → j < 512 → k < 8 → bit_of 16 (get_or (exchanged halves) (j / 2) 0) (8 * (1 - j % 2) + k) ≡ back_halves words (coded_source (j * 8 + k))
  unfolding back_halves coded_source
  coded_bit_lem j k lj lk =
      let i : 8 * (j / 16) + j / 2 % 8 ≡ j / 2 = omega arith in
      let a : (j * 8 + k) / 16 * 16 ≡ 128 * (j / 16) + 16 * (j / 2 % 8) = omega arith in
      let c : (j * 8 + k) % 16 ≡ 8 * (j % 2) + k = omega arith in
      let q : (j * 8 + k) / 128 ≡ j / 16 = omega arith in
      let x : (8 * (j % 2) + k) ⊕ (j / 16 % 16) < 16 = ⊕_lt 4 (8 * (j % 2) + k) (j / 16 % 16) (omega arith) (omega arith) in
      ap (λ n. bit_of 16 (get_or (exchanged halves) n 0) (8 * (1 - j % 2) + k)) (sym i)
      ∙ written_bit (j / 16) (j / 2 % 8) (j % 2) k (omega arith) (omega arith) (omega arith) lk
      ∙ rw (a, c, q) (at_place (j / 16) (16 * (j / 2 % 8)) ((8 * (j % 2) + k) ⊕ (j / 16 % 16)) (omega arith) x)
    where
      at_place : (w b x : ℕ) → b + 16 ≤ 128 → x < 16 → words w (128 + (b + x)) ≡ words ((128 * w + b + x) / 128) (128 + (128 * w + b + x) % 128)
      at_place w b x lb lx =
          let d : (128 * w + b + x) / 128 ≡ w = omega arith in
          let m : (128 * w + b + x) % 128 ≡ b + x = omega arith in
          rw (d, m) refl

  pub pair_bytes : (q : List ℕ) → q ≡ tabulate 512 (word_byte (exchanged halves)) → q ≡ coded_pair words
  unfolding word_byte byte_of pack
  pair_bytes q p =
      p ∙ tabulate_ext 512 (word_byte (exchanged halves)) (byte_of (λ i. back_halves words (coded_source i)))
      (λ j lj. from_bits_ext 8 (λ k. bit_of 16 (get_or (exchanged halves) (j / 2) 0) (8 * (1 - j % 2) + k)) (λ k. back_halves words (coded_source (j * 8 + k)))
      (λ k lk. ap (λ u. u % 2) (coded_bit_lem j k lj lk)))
      ∙ coded_gathered words (back_halves words) (λ m l. refl)
