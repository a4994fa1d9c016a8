-- What code makes of a pair is the pair encoded.
-- Assumes nothing.
use Rattle.std.specs.Prelude.{◌≡◌, refl, List, ℕ, ◌+◌, ◌-◌, ◌*◌, ◌/◌, ◌%◌, ◌<◌, ◌≤◌, ltb, length, get_or}
use Rattle.std.proofs.Common.{sym, ap₂, ◌∙◌, arith, lt-ltb, le-ltb}
use Rattle.std.proofs.Math.Path.{ap}
use Rattle.std.proofs.Math.Bool.{cond}
use Rattle.std.proofs.Math.Decide.{dec_lt}
use borrow.Rule.Slice.PartMut.{put_mid}
use Rattle.std.specs.Int.Bits.{bit_xor}
use Rattle.bits.specs.Bits.{bit_of, from_bits}
use Rattle.bits.proofs.BitLaws.{from_bits_ext}
use Rattle.bits.specs.Lists.{tabulate}
use Rattle.bits.specs.ListLaws.{get_d_tabulate, tabulate_ext}
use Rattle.bits.specs.Xor.{◌⊕◌}
use Rattle.blocks.specs.SideBySide.{word_byte}
use Rattle.word_spec.specs.CodeWord.{Word}
use Rattle.word_spec.specs.Completion.{first_bits}
use Rattle.word_spec.proofs.CompletionLaws.{first_bits_lem}
use Rattle.networks_spec.specs.Networks.{network, check_columns}
use Rattle.gathering_spec.proofs.Dirty.{gathered_same, parities_same}
use Rattle.gathering_core.specs.Lanes.{Levelled}
use Rattle.permutation_core.specs.Stages.{two_transposed}
use Rattle.riffle_core.specs.Riffles.{by_words}
use Rattle.pair_spec.specs.History.{depth}
use Rattle.pair_spec.specs.Encoding.{open_word, encoded_word, encoded}
use Rattle.pair_spec.proofs.EncodingLaws.{open_bits}
use Rattle.pair_spec.specs.Calls.{encode_buffers, encode_pair}
use Rattle.pair_spec.proofs.CallLaws.{encode_written}
use Rattle.pair_words_core.specs.BackHalves.{back_halves, OfBits, encoded_bits}
use Rattle.pair_words_core.specs.Halves.{word_half, word_halves, halves_bit}
use Rattle.pair_words_core.specs.HalvesLaws.{halves_bit_lem}
use Rattle.pair_words_core.specs.Shifting.{Moving, move_on, shift_is}
use Rattle.pair_words_core.specs.WordBits.{front_held, open_front_bit}
use Rattle.pair_words_core.specs.WordBytes.{own_bit, own_is}
use Rattle.payload_rows_core.specs.PayloadRows.{open_number}
use Rattle.rows_core.specs.Held.{halves_word}
use Rattle.rows_core.specs.RowWords.{backs_in, exchanged_number, exchanged}
use Rattle.rows_core.specs.RowWordLaws.{exchanged_at}
use Rattle.syndromes_core.specs.RowChecks.{RowChecked}
use Rattle.syndromes_core.specs.RowCheckLaws.{gathered_levels, parities_levels}
use Rattle.completing_core.specs.Completing.{check_numbers, check_row, completed_number, completed_halves}
use Rattle.completing_core.specs.CompletedLaws.{halves_completed}
use Rattle.encoding_core.specs.CodedPairs.{Checked, row_with, coded_byte}
use Rattle.encoding_core.specs.CodedPairLaws.{pair_bytes}

-- ---- as code makes it

pub words_checked : (h : List ℕ) (P : ℕ) (halves a b sums last : List ℕ) (p q odd own : ℕ) → RowChecked h P halves 0 a p → RowChecked h P halves 1 b q
    → Levelled a b sums → odd ≡ p * 65536 + q % 65536 → last ≡ two_transposed (check_numbers sums odd) → own ≡ get_or (network check_columns sums) 7 0
    → Checked h P halves last own
words_checked h P halves a b sums last p q odd own m n l eo el ew =
    record {
      sums = sums;
      odd = odd;
      gathered = gathered_levels h P halves a b p q m n sums l;
      parities = parities_levels h P halves a b p q m n odd eo;
      last_is = el;
      own_is = ew;
    }

-- A number of a block with its check bits.
pub block_with : (checks halves : List ℕ) (s r C x y : ℕ) → r < 16 → C < 8 → x ≡ get_or halves (128 * s + 8 * r + C) 0 → y ≡ get_or checks (8 * r + C) 0
    → bit_xor x y ≡ get_or (row_with checks halves s) (8 * r + C) 0
unfolding row_with ◌⊕◌
block_with checks halves s r C x y lr lC ex ey =
    ap₂ bit_xor (ex ∙ ap (λ n. get_or halves n 0) (omega arith)) ey
    ∙ sym (get_d_tabulate 128 (λ n. bit_xor (get_or halves (128 * s + n) 0) (get_or checks n 0)) (8 * r + C) 0 (omega arith))

-- A row, written.
pub row_coded : (last : List ℕ) (own : ℕ) (halves : List ℕ) (s : ℕ) (checks row out : List ℕ) → s < 2 → out ≡ tabulate 256 (word_byte row)
    → row ≡ backs_in (row_with checks halves s) → checks ≡ by_words (check_row last own s)
    → out ≡ tabulate 256 (λ j. coded_byte last own halves (s * 256 + j))
unfolding coded_byte word_byte exchanged exchanged_number completed_halves completed_number row_with
row_coded last own halves s checks row out ls eo er ec =
    eo ∙ tabulate_ext 256 (word_byte row) (λ j. coded_byte last own halves (s * 256 + j))
    (λ j l.
    let h : (s * 256 + j) / 2 ≡ s * 128 + j / 2 = omega arith in
    let m : (s * 256 + j) % 2 ≡ j % 2 = omega arith in
    rw (h, m) (ap (λ v. from_bits 8 (λ c. bit_of 16 v (8 * (1 - j % 2) + c))) (number (j / 2) (omega arith))))
  where
    same : (n : ℕ) → n < 128 → get_or (row_with checks halves s) n 0 ≡ get_or (completed_halves last own halves) (s * 128 + n) 0
    same n l =
        let d : (s * 128 + n) / 128 ≡ s = omega arith in
        let m : (s * 128 + n) % 128 ≡ n = omega arith in
        get_d_tabulate 128 (λ n. get_or halves (128 * s + n) 0 ⊕ get_or checks n 0) n 0 l
        ∙ ap₂ ◌⊕◌ (ap (λ n. get_or halves n 0) (omega arith)) (ap (λ u. get_or u n 0) ec ∙ ap₂ (λ t k. get_or (by_words (check_row last own t)) k 0) (sym d) (sym m))
        ∙ sym (get_d_tabulate 256 (completed_number last own halves) (s * 128 + n) 0 (omega arith))

    number : (n : ℕ) → n < 128 → get_or row n 0 ≡ get_or (exchanged (completed_halves last own halves)) (s * 128 + n) 0
    number n l =
        let d : (s * 128 + n) / 8 ≡ 16 * s + n / 8 = omega arith in
        let m : (16 * s + n / 8) % 16 ≡ n / 8 % 16 = omega arith in
        ap (λ u. get_or u n 0) er ∙ exchanged_at (row_with checks halves s) n l
        ∙ ap₂ (λ v k. from_bits 16 (λ c. bit_of 16 v (c ⊕ k))) (same n l) (sym (ap (λ k. k % 16) d ∙ m))
        ∙ sym (get_d_tabulate 256 (exchanged_number (completed_halves last own halves)) (s * 128 + n) 0 (omega arith))

-- The history, moved down in parts.
pub parts_moved : (h a b c : List ℕ) → Moving 512 h 0 1536 1536 a → Moving 512 a 1536 3072 3072 b → Moving 512 b 3072 4608 4608 c → Moving 512 h 0 4608 4608 c
parts_moved h a b c ma mb mc = move_on (move_on ma mb) mc

-- ---- the pair encoded

back_at : (words : ℕ → Word) (w k : ℕ) → w < 32 → 128 ≤ k → k < 256 → back_halves words (128 * w + (k - 128)) ≡ words w k
unfolding back_halves
back_at words w k lw l m =
    let d : (128 * w + (k - 128)) / 128 ≡ w = omega arith in
    let e : 128 + (128 * w + (k - 128)) % 128 ≡ k = omega arith in
    rw (d, e)

module _ (h : List ℕ) (P : ℕ) (y : List ℕ) where
  -- The words before their completion.
  abbrev opened : ℕ → Word
  opened w = first_bits (open_word depth h P y w)

  opened_bits : OfBits opened
  opened_bits w k lw l = first_bits_lem (open_word depth h P y w) (λ k l. open_bits depth h P y w k) k

  module _ (halves : List ℕ) (e : halves ≡ tabulate 256 (open_number y)) where
    halves_opened : halves ≡ word_halves opened
    unfolding word_halves word_half open_number
    halves_opened =
        e ∙ tabulate_ext 256 (open_number y) (word_half opened)
        (λ n l. from_bits_ext 16 (λ c. own_bit y (n / 8) (128 + (16 * (n % 8) + (c + 8) % 16))) (λ c. opened (n / 8) (128 + (16 * (n % 8) + (c + 8) % 16)))
        (λ c lc. ap (λ u. u % 2) (own_is h y P (n / 8) (omega arith) (128 + (16 * (n % 8) + (c + 8) % 16)) (omega arith) (omega arith))))

    word_opened : (w k : ℕ) → w < 32 → k < 256 → halves_word h P halves w k ≡ opened w k
    unfolding halves_word
    word_opened w k lw lk = go (dec_lt k 128)
      where
        go : Dec (k < 128) → cond (ltb k 128) (front_held depth h P w k) (halves_bit halves (128 * w + (k - 128))) ≡ opened w k
        go (yes l) = simp (lt-ltb k 128 l) (open_front_bit depth h y P w lw k (front_held depth h P w k) l refl)
        go (no l) =
            simp (le-ltb k 128 (omega arith))
            (halves_bit_lem opened opened_bits halves halves_opened (128 * w + (k - 128)) (omega arith) ∙ back_at opened w k lw (omega arith) lk)

    halves_encoded : (last : List ℕ) (own : ℕ) → Checked h P halves last own → completed_halves last own halves ≡ word_halves (encoded_word depth h P y)
    unfolding encoded_word
    halves_encoded last own c =
        halves_completed (open_word depth h P y) (λ w k l. open_bits depth h P y w k) c.sums c.odd (gathered_same word_opened c.gathered)
        (parities_same word_opened c.parities) halves last own halves_opened c.last_is c.own_is

pub encoded_made : (h : List ℕ) (P : ℕ) (y halves last q d p : List ℕ) (own : ℕ) → length h ≡ 512 * depth → halves ≡ tabulate 256 (open_number y)
    → Checked h P halves last own → Moving 512 h 0 4608 4608 d → q ≡ tabulate 512 (coded_byte last own halves) → p ≡ q
    → encode_buffers q (put_mid 4608 512 d p) ≡ encode_pair h P y
unfolding encoded coded_byte
encoded_made h P y halves last q d p own size eh c m eq ep =
    encode_written h y q (put_mid 4608 512 d p) P
    (pair_bytes (encoded_word depth h P y) (encoded_bits depth h P y) (completed_halves last own halves) (halves_encoded h P y halves eh last own c) q eq)
    (shift_is h d q p 4608 512 m (omega (arith, size)) refl ep)
