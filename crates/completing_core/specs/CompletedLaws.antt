-- A row of halves with the check bits put in is the row of the completions.
-- Assumes nothing.
use Rattle.std.specs.Prelude.{◌≡◌, cond, List, ◌≢◌, ℕ, ◌+◌, ◌-◌, ◌*◌, ◌/◌, ◌%◌, ◌^◌, ◌<◌, ◌≤◌, ltb, eqb}
use Rattle.std.proofs.Math.Path.{sym, ap, ap₂}
use Rattle.std.proofs.Common.{◌∙◌, arith, eq-eqb, ne_eqb, shr-shr, get_or-set_same, get_or-set_other}
use Rattle.std.proofs.Math.Decide.{dec_lt, ℕ_discrete}
use Rattle.std.proofs.Math.ListN.{get_or}
use Rattle.bits.specs.Bits.{bit_of}
use Rattle.bits.proofs.BitLaws.{bit_of_lt, bit_of_equal, from_bits_lt, bit_of_from_bits}
use Rattle.bits.specs.ListLaws.{length_tabulate, get_d_tabulate, tabulate_ext}
use Rattle.bits.proofs.TestLaws.{either}
use Rattle.bits.specs.Tests.{grid}
use Rattle.bits.specs.Xor.{◌⊕◌, xor_sum}
use Rattle.bits.proofs.XorLaws.{⊕_lt, ⊕_zero, zero_⊕}
use Rattle.blocks.specs.Moves.{moved_in, moved_word}
use Rattle.word_spec.specs.CodeWord.{Word}
use Rattle.word_spec.specs.Completion.{first_bits, completed}
use Rattle.word_spec.proofs.CompletionLaws.{first_low, first_high, first_bits_lem, completed_first, completed_code}
use Rattle.networks_spec.specs.Networks.{network, network_sum, check_columns}
use Rattle.networks_spec.proofs.NetworkLaws.{bit_of_⊕}
use Rattle.gathering_spec.specs.Sums.{Gathered, Parities, check_place}
use Rattle.gathering_spec.proofs.CheckSums.{place_low, place_mid, place_high, checked, checked_parity}
use Rattle.gathering_spec.proofs.Dirty.{zero_digit}
use Rattle.permutation_core.specs.Stages.{two_transposed}
use Rattle.permutation_core.specs.StageLaws.{cut_bit}
use Rattle.riffle_core.specs.Riffles.{by_words}
use Rattle.riffle_core.specs.RiffleLaws.{by_words_at}
use Rattle.pair_words_core.specs.Halves.{word_half, word_halves}
use Rattle.completing_core.specs.Completing.{half_of, check_numbers, own_number, last_number, check_number, check_row, completed_number, completed_halves}
use Rattle.completing_core.specs.CompletingLaws.{number_none, number_own, number_last}

-- ---- bits

-- A bit of the half that is of row s.
half_bit : (s x c : ℕ) → s < 2 → c < 16 → bit_of 16 (half_of s x) c ≡ bit_of 32 x (16 * s + c)
unfolding half_of bit_of
half_bit s x c ls lc =
    let e : 16 - 16 * s + (16 - 1 - c) ≡ 32 - 1 - (16 * s + c) = omega arith in
    cut_bit 16 (x / 2 ^ (16 - 16 * s)) c lc ∙ ap (λ u. u % 2) (shr-shr x (16 - 16 * s) (16 - 1 - c)) ∙ ap (λ k. x / 2 ^ k % 2) e

-- A bit of two blocks that were transposed.
two_bit : (b : List ℕ) (s r c : ℕ) → s < 2 → r < 16 → c < 16 → bit_of 32 (get_or (two_transposed b) r 0) (16 * s + c) ≡ bit_of 32 (get_or b c 0) (16 * s + r)
unfolding two_transposed moved_in moved_word
two_bit b s r c ls lr lc =
    let m : (16 * s + c) % 16 ≡ c = omega arith in
    let q : (16 * s + c) / 16 * 16 + r ≡ 16 * s + r = omega arith in
    ap (λ u. bit_of 32 u (16 * s + c)) (get_d_tabulate 16 (moved_word 32 (λ i c. c % 16) (λ i c. c / 16 * 16 + i) b) r 0 lr)
    ∙ bit_of_from_bits 32 (λ c. bit_of 32 (get_or b (c % 16) 0) (c / 16 * 16 + r)) (16 * s + c) (omega arith)
    ∙ rw (m, q) (omega (arith, bit_of_lt 32 (get_or b c 0) (16 * s + r)))

none_bit : (c : ℕ) → bit_of 16 0 c ≡ 0
unfolding bit_of
none_bit c = zero_digit (16 - 1 - c)

own_bit_lem : (y c : ℕ) → y < 2 → c < 16 → bit_of 16 (y * 256) c ≡ cond (eqb c 7) y 0
unfolding bit_of
own_bit_lem = grid 2 16 (λ y c. bit_of 16 (y * 256) c) (λ y c. cond (eqb c 7) y 0) tt

number_lt : (last : List ℕ) (own s n : ℕ) → check_number last own s n < 2 ^ 16
unfolding check_number own_number last_number half_of
number_lt last own s n =
    either (λ u. u < 2 ^ 16) (ltb n 96) _ _ (omega arith) (either (λ u. u < 2 ^ 16) (ltb n 112) _ _ (omega arith) (omega arith))

-- ---- the words

module _ (words : ℕ → Word) (bits : (w k : ℕ) → k < 239 → words w k < 2) (t : List ℕ) (q : ℕ) (g : Gathered (λ w. first_bits (words w)) t)
    (o : Parities (λ w. first_bits (words w)) q) (halves last : List ℕ) (own : ℕ) (eh : halves ≡ word_halves (λ w. first_bits (words w)))
    (el : last ≡ two_transposed (check_numbers t q)) (eo : own ≡ get_or (network check_columns t) 7 0) (s : ℕ) (ls : s < 2) where
  -- What is put in at column c of block C of word r, as the halves have it.
  put : ℕ → ℕ → ℕ → ℕ
  put r C c = bit_of 16 (check_number last own s (16 * C + r)) c

  abbrev place : ℕ → ℕ → ℕ
  place C c = 128 + (16 * C + (c + 8) % 16)

  module _ (r : ℕ) (lr : r < 16) where
    abbrev w : ℕ
    w = 16 * s + r

    -- In blocks 0 to 5 nothing;
    put_first : (C c : ℕ) → C < 6 → put r C c ≡ 0
    unfolding put
    put_first C c l = ap (λ u. bit_of 16 u c) (number_none last own s (16 * C + r) (omega arith)) ∙ none_bit c

    -- in block 6 bit 239;
    own_is : own_number (half_of s own) r ≡ bit_of 32 own w * 256
    unfolding own_number bit_of
    own_is = ap (λ u. u * 256) (half_bit s own r ls lr)

    put_sixth : (c : ℕ) → c < 16 → put r 6 c ≡ cond (eqb c 7) (bit_of 32 own w) 0
    unfolding put
    put_sixth c l =
        ap (λ u. bit_of 16 u c) (number_own last own s r lr ∙ own_is) ∙ own_bit_lem (bit_of 32 own w) c (bit_of_lt 32 own w) l

    own_bit_is : bit_of 32 own w ≡ completed (words w) 239
    own_bit_is = ap (λ u. bit_of 32 u w) eo ∙ checked words bits t q g o w (omega arith) 7 (omega arith) ∙ ap (completed (words w)) place_mid

    -- in block 7 bits 240 to 255.
    put_last : (c : ℕ) → c < 16 → put r 7 c ≡ bit_of 32 (get_or (check_numbers t q) c 0) w
    unfolding put last_number
    put_last c l =
        ap (λ u. bit_of 16 u c) (number_last last own s r ∙ ap (λ u. half_of s (get_or u r 0)) el)
        ∙ half_bit s (get_or (two_transposed (check_numbers t q)) r 0) c ls l ∙ two_bit (check_numbers t q) s r c ls lr l

    last_parity : bit_of 32 (get_or (check_numbers t q) 7 0) w ≡ completed (words w) 255
    unfolding check_numbers network
    last_parity =
        ap (λ u. bit_of 32 u w)
        (get_or-set_same (network check_columns t) 7 (q ⊕ xor_sum 16 (λ i. get_or (network check_columns t) i 0)) 0 (omega (arith, length_tabulate 16 (network_sum check_columns t))))
        ∙ checked_parity words bits t q g o w (omega arith)

    last_other : (c : ℕ) → c < 16 → c ≢ 7 → bit_of 32 (get_or (check_numbers t q) c 0) w ≡ completed (words w) (check_place c)
    unfolding check_numbers
    last_other c l n =
        ap (λ u. bit_of 32 u w) (get_or-set_other (network check_columns t) 7 c (q ⊕ xor_sum 16 (λ i. get_or (network check_columns t) i 0)) 0 n)
        ∙ checked words bits t q g o w (omega arith) c l

    -- Together with what stood there it is the completion.
    low : (C c : ℕ) → place C c < 239 → put r C c ≡ 0 → first_bits (words w) (place C c) ⊕ put r C c ≡ completed (words w) (place C c)
    low C c l e =
        ap (λ u. first_bits (words w) (place C c) ⊕ u) e ∙ ⊕_zero (first_bits (words w) (place C c)) ∙ first_low (words w) (place C c) l
        ∙ sym (completed_first (words w) (place C c) l)

    high : (C c : ℕ) → 239 ≤ place C c → put r C c ≡ completed (words w) (place C c) → first_bits (words w) (place C c) ⊕ put r C c ≡ completed (words w) (place C c)
    high C c l e = ap₂ ◌⊕◌ (first_high (words w) (place C c) l) e ∙ zero_⊕ (completed (words w) (place C c))

    sixth : (c : ℕ) → c < 16 → Dec (c ≡ 7) → first_bits (words w) (place 6 c) ⊕ put r 6 c ≡ completed (words w) (place 6 c)
    sixth c l (yes e) =
        let k : place 6 c ≡ 239 = omega arith in
        high 6 c (omega arith) (put_sixth c l ∙ simp (eq-eqb c 7 e) own_bit_is ∙ ap (completed (words w)) (sym k))
    sixth c l (no n) = low 6 c (omega (arith, n)) (put_sixth c l ∙ simp (ne_eqb c 7 n))

    seventh : (c : ℕ) → c < 16 → Dec (c < 7) → Dec (c < 8) → first_bits (words w) (place 7 c) ⊕ put r 7 c ≡ completed (words w) (place 7 c)
    seventh c l (yes m) d =
        let k : place 7 c ≡ 248 + c = omega arith in
        high 7 c (omega arith) (put_last c l ∙ last_other c l (λ e. omega arith) ∙ ap (completed (words w)) (place_low c m ∙ sym k))
    seventh c l (no m) (yes d) =
        let e : c ≡ 7 = omega arith in
        let k : place 7 c ≡ 255 = omega arith in
        high 7 c (omega arith) (put_last c l ∙ ap (λ i. bit_of 32 (get_or (check_numbers t q) i 0) w) e ∙ last_parity ∙ ap (completed (words w)) (sym k))
    seventh c l (no m) (no d) =
        let k : place 7 c ≡ 232 + c = omega arith in
        high 7 c (omega arith) (put_last c l ∙ last_other c l (λ e. omega arith) ∙ ap (completed (words w)) (place_high c (omega arith) ∙ sym k))

    bit_completed : (C c : ℕ) → C < 8 → c < 16 → first_bits (words w) (place C c) ⊕ put r C c ≡ completed (words w) (place C c)
    bit_completed C c lC lc = go (dec_lt C 6) (dec_lt C 7)
      where
        go : Dec (C < 6) → Dec (C < 7) → first_bits (words w) (place C c) ⊕ put r C c ≡ completed (words w) (place C c)
        go (yes m) d = low C c (omega arith) (put_first C c m)
        go (no m) (yes d) = let e : C ≡ 6 = omega arith in rw e (sixth c lc (ℕ_discrete c 7))
        go (no m) (no d) = let e : C ≡ 7 = omega arith in rw e (seventh c lc (dec_lt c 7) (dec_lt c 8))

    -- Number 8r+C of the row.
    module _ (C : ℕ) (lC : C < 8) where
      abbrev n : ℕ
      n = s * 128 + (8 * r + C)

      here : n / 8 ≡ w
      here = omega arith

      block : n % 8 ≡ C
      block = omega arith

      half_of_lem : (f : ℕ → Word) (c : ℕ) → c < 16 → f w (place C c) < 2 → bit_of 16 (word_half f n) c ≡ f w (place C c)
      unfolding word_half
      half_of_lem f c lc b =
          bit_of_from_bits 16 (λ c. f (n / 8) (128 + (16 * (n % 8) + (c + 8) % 16))) c lc ∙ rw (here, block) (omega (arith, b))

      stood : get_or halves n 0 ≡ word_half (λ u. first_bits (words u)) n
      unfolding word_halves
      stood = ap (λ u. get_or u n 0) eh ∙ get_d_tabulate 256 (word_half (λ u. first_bits (words u))) n 0 (omega arith)

      in_row : get_or (by_words (check_row last own s)) (8 * r + C) 0 ≡ check_number last own s (16 * C + r)
      unfolding check_row
      in_row = by_words_at (check_row last own s) r C lr lC ∙ get_d_tabulate 128 (check_number last own s) (16 * C + r) 0 (omega arith)

      added : get_or (by_words (check_row last own (n / 128))) (n % 128) 0 ≡ check_number last own s (16 * C + r)
      added =
          let d : n / 128 ≡ s = omega arith in
          let m : n % 128 ≡ 8 * r + C = omega arith in
          rw (d, m) in_row

      half_lt : (f : ℕ → Word) → word_half f n < 2 ^ 16
      unfolding word_half
      half_lt f = from_bits_lt 16 _

      number_completed : completed_number last own halves n ≡ word_half (λ u. completed (words u)) n
      unfolding completed_number put
      number_completed =
          ap₂ ◌⊕◌ stood added
          ∙ bit_of_equal 16 _ _
          (⊕_lt 16 (word_half (λ u. first_bits (words u)) n) (check_number last own s (16 * C + r)) (half_lt (λ u. first_bits (words u))) (number_lt last own s (16 * C + r)))
          (half_lt (λ u. completed (words u)))
          (λ c lc.
          bit_of_⊕ 16 (word_half (λ u. first_bits (words u)) n) (check_number last own s (16 * C + r)) c
          ∙ ap (λ u. u ⊕ bit_of 16 (check_number last own s (16 * C + r)) c) (half_of_lem (λ u. first_bits (words u)) c lc (first_bits_lem (words w) (bits w) (place C c)))
          ∙ bit_completed C c lC lc
          ∙ sym (half_of_lem (λ u. completed (words u)) c lc ((completed_code (words w) (bits w)).bits (place C c) (omega arith))))

pub halves_completed : (words : ℕ → Word) → ((w k : ℕ) → k < 239 → words w k < 2) → (t : List ℕ) (q : ℕ) → Gathered (λ w. first_bits (words w)) t
    → Parities (λ w. first_bits (words w)) q → (halves last : List ℕ) (own : ℕ) → halves ≡ word_halves (λ w. first_bits (words w))
    → last ≡ two_transposed (check_numbers t q) → own ≡ get_or (network check_columns t) 7 0
    → completed_halves last own halves ≡ word_halves (λ u. completed (words u))
unfolding completed_halves word_halves
halves_completed words bits t q g o halves last own eh el eo =
    tabulate_ext 256 (completed_number last own halves) (word_half (λ u. completed (words u)))
    (λ n l.
    let i : n / 128 * 128 + (8 * (n % 128 / 8) + n % 8) ≡ n = omega arith in
    rw i at (number_completed words bits t q g o halves last own eh el eo (n / 128) (omega arith) (n % 128 / 8) (omega arith) (n % 8) (omega arith)))
