-- Laws of the words side by side: they are the words that the receiver holds, and so is what is gathered of them.
-- Assumes nothing.
use Rattle.std.specs.Prelude.{◌≡◌, refl, List, ℕ, zero, suc, ◌+◌, ◌-◌, ◌*◌, ◌/◌, ◌%◌, ◌^◌, ◌<◌, ◌≤◌, ltb, length, get_or, replicate}
use Rattle.std.proofs.Math.Path.{ap}
use Rattle.std.proofs.Common.{◌∙◌, lt-ltb, le-ltb}
use Rattle.std.proofs.Math.Bool.{cond}
use native.Mathlib.Omega.{arith}
use Rattle.std.proofs.Math.Decide.{dec_lt}
use Rattle.bits.specs.Bits.{bit, bit_of}
use Rattle.bits.proofs.BitLaws.{bit_lt, bit_of_from_bits, from_bits_ext}
use Rattle.bits.specs.ListLaws.{get_d_tabulate, tabulate_ext}
use Rattle.bits.specs.Xor.{◌⊕◌}
use Rattle.gathering_spec.specs.Sums.{bit_in, word_in, both_rows, Gathered, Parities}
use Rattle.gathering_spec.proofs.Dirty.{gathered_same, parities_same, zero_digit}
use Rattle.gathering_spec.specs.Gathering.{GatheredRows}
use Rattle.gathering_spec.proofs.GatheringLaws.{rows_gathered}
use Rattle.pair_spec.specs.History.{depth}
use Rattle.pair_spec.specs.Receiving.{held_word}
use Rattle.pair_words_core.specs.Halves.{word_half, word_halves, halves_bit}
use Rattle.pair_words_core.specs.WordBits.{front_held, front_none, front_held_lem, held_front, held_back}
use Rattle.pair_spec.proofs.HistoryLaws.{deep}
use Rattle.rows_core.specs.RowWords.{front_words, fronts_in, coded_half, coded_halves, columns_of}
use Rattle.rows_core.specs.RowWordLaws.{fronts_bit, columns_bit}
use Rattle.rows_core.specs.Held.{halves_word, Fronts, Backs}

-- ---- the halves side by side

-- From pair 10 on the front halves stand in the history, those of either row in the other row of their pairs;
pub fronts_held : (h : List ℕ) (P s : ℕ) (f x : List ℕ) → s < 2 → 10 ≤ P → f ≡ front_words h (256 - 256 * s) → x ≡ fronts_in f → Fronts h P s x
unfolding bit_in
fronts_held h P s f x ls m ef e =
    record {
      front = λ r k lr lk.
          let w : (16 * s + r) % 16 ≡ r = omega arith in
          front_held_lem h P (16 * s + r) k ((k % 16) ⊕ r) _ (omega arith) lk m (rw w refl)
          (fronts_bit h (256 - 256 * s) x (e ∙ ap fronts_in ef) (k % 16) (k / 16) r (omega arith) (omega arith) lr ∙ ap (bit h) (omega arith));
    }

-- before it they are zeros.
zeros : (n k : ℕ) → ◌≡◌ {A = ℕ} (get_or (replicate n 0) k 0) 0
zeros zero k = refl
zeros (suc n) zero = refl
zeros (suc n) (suc k) = zeros n k

pub fronts_none : (h : List ℕ) (P s : ℕ) → s < 2 → P < 10 → Fronts h P s (replicate 128 0)
unfolding bit_in bit_of
fronts_none h P s ls m =
    record {
      front = λ r k lr lk.
          ap (λ u. u / 2 ^ (16 - 1 - r) % 2) (zeros 128 (8 * (k % 16) + k / 16)) ∙ zero_digit (16 - 1 - r)
          ∙ front_none depth h P (16 * s + r) k (omega arith) lk m;
    }

pub backs_held : (halves : List ℕ) (s : ℕ) (y : List ℕ) → y ≡ columns_of halves s → Backs halves s y
unfolding bit_in
backs_held halves s y e =
    record { back = λ r k lr lk. columns_bit halves s y e (k % 16) (k / 16) r (omega arith) (omega arith) lr ∙ ap (halves_bit halves) (omega arith) }

-- ---- the words

-- The halves of a coded pair are those of the words as held.
module _ (h p : List ℕ) (P : ℕ) (size : length h ≡ 512 * depth) where
  half_bit : (w m : ℕ) → w < 32 → m < 128 → bit p (16 * (8 * w + m / 16) + ((m % 16) ⊕ (w % 16))) ≡ held_word depth h P p w (128 + m)
  half_bit w m lw lm =
      let r : (128 + m) % 16 ≡ m % 16 = omega arith in
      let d : (128 + m - 128) / 16 ≡ m / 16 = omega arith in
      held_back depth h p P w size lw (128 + m) ((m % 16) ⊕ (w % 16)) _ (omega arith) (omega arith) (rw r refl) (ap (bit p) (rw d (omega arith)))

  half_at : (n c : ℕ) → n < 256 → c < 16 → bit p (16 * n + (c ⊕ (n / 8 % 16))) ≡ held_word depth h P p (n / 8) (128 + (16 * (n % 8) + c))
  half_at n c l lc =
      let q : (16 * (n % 8) + c) / 16 ≡ n % 8 = omega arith in
      let m : (16 * (n % 8) + c) % 16 ≡ c = omega arith in
      let i : 8 * (n / 8) + n % 8 ≡ n = omega arith in
      let t : bit p (16 * (8 * (n / 8) + n % 8) + (c ⊕ (n / 8 % 16))) ≡ held_word depth h P p (n / 8) (128 + (16 * (n % 8) + c)) =
      rw (q, m) at (half_bit (n / 8) (16 * (n % 8) + c) (omega arith) (omega arith)) in
      rw i at t

  pub halves_held : (s : List ℕ) → s ≡ coded_halves p → s ≡ word_halves (held_word depth h P p)
  unfolding coded_halves coded_half word_halves word_half
  halves_held s e =
      e ∙ tabulate_ext 256 (coded_half p) (word_half (held_word depth h P p))
      (λ n l. from_bits_ext 16 (λ c. bit p (16 * n + (((c + 8) % 16) ⊕ (n / 8 % 16)))) (λ c. held_word depth h P p (n / 8) (128 + (16 * (n % 8) + (c + 8) % 16)))
      (λ c lc. ap (λ u. u % 2) (half_at n ((c + 8) % 16) l (omega arith))))

  module _ (s : List ℕ) (e : s ≡ coded_halves p) where
    stored : (w m : ℕ) → w < 32 → m < 128 → halves_bit s (128 * w + m) ≡ held_word depth h P p w (128 + m)
    unfolding halves_bit coded_halves coded_half
    stored w m lw lm =
        let q : (128 * w + m) / 16 ≡ 8 * w + m / 16 = omega arith in
        let r : (128 * w + m + 8) % 16 ≡ (m + 8) % 16 = omega arith in
        let d : (8 * w + m / 16) / 8 ≡ w = omega arith in
        let c : ((m + 8) % 16 + 8) % 16 ≡ m % 16 = omega arith in
        rw (q, r)
        (ap (λ t. bit_of 16 (get_or t (8 * w + m / 16) 0) ((m + 8) % 16)) e
        ∙ ap (λ u. bit_of 16 u ((m + 8) % 16)) (get_d_tabulate 256 (coded_half p) (8 * w + m / 16) 0 (omega arith))
        ∙ bit_of_from_bits 16 (λ c. bit p (16 * (8 * w + m / 16) + (((c + 8) % 16) ⊕ ((8 * w + m / 16) / 8 % 16)))) ((m + 8) % 16) (omega arith)
        ∙ rw (d, c) (omega (arith, bit_lt p (16 * (8 * w + m / 16) + ((m % 16) ⊕ (w % 16))))) ∙ half_bit w m lw lm)

    coded_word : (w k : ℕ) → w < 32 → k < 256 → halves_word h P s w k ≡ held_word depth h P p w k
    unfolding halves_word
    coded_word w k lw lk = go (dec_lt k 128)
      where
        go : Dec (k < 128) → cond (ltb k 128) (front_held depth h P w k) (halves_bit s (128 * w + (k - 128))) ≡ held_word depth h P p w k
        go (yes l) = simp (lt-ltb k 128 l) (held_front depth h p P w size lw deep k _ l refl)
        go (no l) =
            let a : 128 + (k - 128) ≡ k = omega arith in
            simp (le-ltb k 128 (omega arith)) (stored w (k - 128) lw (omega arith) ∙ ap (held_word depth h P p w) a)

    pub gathered_held : (t : List ℕ) → Gathered (halves_word h P s) t → Gathered (held_word depth h P p) t
    gathered_held t g = gathered_same coded_word g

    pub parities_held : (q : ℕ) → Parities (halves_word h P s) q → Parities (held_word depth h P p) q
    parities_held q g = parities_same coded_word g

    -- So what the code gathers of the halves of a coded pair is gathered in byte order from the rows held.
    pub gathers_rows : (t : List ℕ) (q : ℕ) → Gathered (halves_word h P s) t → Parities (halves_word h P s) q → GatheredRows depth h P p t q
    gathers_rows t q g o = rows_gathered depth h P p t q (gathered_held t g) (parities_held q o)

-- ---- and what is gathered of them

row_joined : (h : List ℕ) (P : ℕ) (halves : List ℕ) (s : ℕ) (x y : List ℕ) → Fronts h P s x → Backs halves s y → (r k : ℕ) → r < 16 → k < 256
    → word_in x y r k ≡ halves_word h P halves (16 * s + r) k
unfolding word_in halves_word
row_joined h P halves s x y f b r k lr lk = go (dec_lt k 128)
  where
    go : Dec (k < 128) → cond (ltb k 128) (bit_in x (k % 16) (k / 16) r) (bit_in y (k % 16) ((k - 128) / 16) r)
        ≡ cond (ltb k 128) (front_held depth h P (16 * s + r) k) (halves_bit halves (128 * (16 * s + r) + (k - 128)))
    go (yes l) = simp (lt-ltb k 128 l) (f.front r k lr l)
    go (no l) =
        let q : k % 16 ≡ (k - 128) % 16 = omega arith in
        simp (le-ltb k 128 (omega arith)) (rw q (b.back r (k - 128) lr (omega arith)))

module _ (h : List ℕ) (P : ℕ) (halves x0 y0 x1 y1 : List ℕ) (f0 : Fronts h P 0 x0) (b0 : Backs halves 0 y0) (f1 : Fronts h P 1 x1) (b1 : Backs halves 1 y1) where
  word_joined : (w k : ℕ) → w < 32 → k < 256 → both_rows (word_in x0 y0) (word_in x1 y1) w k ≡ halves_word h P halves w k
  unfolding both_rows
  word_joined w k lw lk = go (dec_lt w 16)
    where
      go : Dec (w < 16) → cond (ltb w 16) (word_in x0 y0 w) (word_in x1 y1 (w - 16)) k ≡ halves_word h P halves w k
      go (yes l) =
          let e : 16 * 0 + w ≡ w = omega arith in
          simp (lt-ltb w 16 l) (row_joined h P halves 0 x0 y0 f0 b0 w k l lk ∙ ap (λ u. halves_word h P halves u k) e)
      go (no l) =
          let e : 16 * 1 + (w - 16) ≡ w = omega arith in
          simp (le-ltb w 16 (omega arith)) (row_joined h P halves 1 x1 y1 f1 b1 (w - 16) k (omega arith) lk ∙ ap (λ u. halves_word h P halves u k) e)

  pub gathered_joined : (t : List ℕ) → Gathered (both_rows (word_in x0 y0) (word_in x1 y1)) t → Gathered (halves_word h P halves) t
  gathered_joined t g = gathered_same word_joined g

  pub parities_joined : (q : ℕ) → Parities (both_rows (word_in x0 y0) (word_in x1 y1)) q → Parities (halves_word h P halves) q
  parities_joined q g = parities_same word_joined g

pub ruleset held = (fronts_held, fronts_none, backs_held, gathered_joined, parities_joined)
