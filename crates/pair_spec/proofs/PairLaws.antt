-- Laws of coded pairs and payloads: the bit that stands at each index, and the index of each bit.
-- Assumes nothing.
use Rattle.std.specs.Prelude.{◌≡◌, true, false, cond, ℕ, ◌+◌, ◌-◌, ◌*◌, ◌/◌, ◌%◌, ◌<◌, ◌≤◌, ltb, length}
use Rattle.std.proofs.Math.Path.{sym, ap, ap₂}
use Rattle.std.proofs.Common.{◌∙◌, mod-lt, div-add-mod', div-lt_iff_lt-mul}
use native.Mathlib.Omega.{arith}
use Rattle.std.proofs.Math.Decide.{dec_lt}
use borrow.Author.Tests.{eq-eqb, eqb-true, lt-ltb, le-ltb}
use Rattle.std.proofs.Math.Arith.{digits_lt, digits_div, digits_mod}
use Rattle.std.proofs.Math.Dec.{eqb}
use Rattle.bits.specs.Bits.{bit}
use Rattle.bits.proofs.BitLaws.{bit_pack, length_pack}
use Rattle.bits.specs.LeastLaws.{least_only}
use Rattle.bits.specs.Xor.{◌⊕◌}
use Rattle.word_spec.specs.CodeWord.{Word}
use Rattle.pair_spec.specs.Rows.{back_bit}
use Rattle.pair_spec.proofs.RowLaws.{xor_16, xor_back, back_place, payload_index_low, payload_index_high, payload_index_lt}
use Rattle.pair_spec.specs.Pairs.{pair_index, pair_bit, source_index, laid_out, coded_index, own_index, coded_pair, payload_of}

-- ---- a layout with an inverse

module _ (n : ℕ) (index : ℕ → ℕ → ℕ) (word place : ℕ → ℕ)
    (back : (w k : ℕ) → w < 32 → k < n → (word (index w k) ≡ w) × (place (index w k) ≡ k)) where
  source_index_at : (w k : ℕ) → w < 32 → k < n → source_index n index (index w k) ≡ w * n + k
  unfolding source_index
  source_index_at w k lw lk =
      least_only (32 * n) (λ m. eqb (index (m / n) (m % n)) (index w k)) (w * n + k) (digits_lt lw lk)
      (eq-eqb _ _ (ap₂ index (digits_div w lk) (digits_mod w lk)))
      (λ m lm t. let e : index (m / n) (m % n) ≡ index w k = eqb-true _ _ t in
      let p = back (m / n) (m % n) ((div-lt_iff_lt-mul positive).1 lm) (mod-lt m positive) in
      let q = back w k lw lk in
      let ew : m / n ≡ w = sym p.0 ∙ ap word e ∙ q.0 in
      let ek : m % n ≡ k = sym p.1 ∙ ap place e ∙ q.1 in
      sym (div-add-mod' m n) ∙ ap₂ (λ a b. a * n + b) ew ek)
    where
      positive : 0 < n
      positive = omega arith

  -- Each bit stands at its index.
  pub laid_at_lem : (words : ℕ → Word) (w k : ℕ) → w < 32 → k < n → laid_out n index words (index w k) ≡ words w (128 + k)
  unfolding laid_out
  laid_at_lem words w k lw lk = rw (source_index_at w k lw lk, digits_div w lk, digits_mod w lk)

  -- At an index stands the bit of the word and place that the inverse gives.
  pub laid_from : (words : ℕ → Word) (i w k : ℕ) → w < 32 → k < n → index w k ≡ i → laid_out n index words i ≡ words w (128 + k)
  laid_from words i w k lw lk e = ap (laid_out n index words) (sym e) ∙ laid_at_lem words w k lw lk

-- ---- coded pairs

-- Word and place of the bit at index i of a coded pair.
unfoldable pub coded_place : ℕ → ℕ
coded_place i = 16 * (i % 128 / 16) + ((i % 16) ⊕ (i / 128 % 16))

pub coded_index_is : (w k : ℕ) → coded_index w k ≡ 128 * w + 16 * (k / 16) + ((k % 16) ⊕ (w % 16))
unfolding coded_index back_bit pair_index
coded_index_is w k =
    let e : (128 + k - 128) / 16 ≡ k / 16 = omega arith in
    let m : (128 + k) % 16 ≡ k % 16 = omega arith in
    rw (e, m) (omega arith)

pub coded_back : (w k : ℕ) → w < 32 → k < 128 → (coded_index w k / 128 ≡ w) × (coded_place (coded_index w k) ≡ k)
unfolding coded_place
coded_back w k lw lk =
    let e = coded_index_is w k in
    let small : (k % 16) ⊕ (w % 16) < 16 = xor_16 (k % 16) (w % 16) (omega arith) (omega arith) in
    let ew : coded_index w k / 128 ≡ w = omega arith in
    let ek : coded_index w k % 128 / 16 ≡ k / 16 = omega arith in
    let ec : coded_index w k % 16 ≡ (k % 16) ⊕ (w % 16) = omega arith in
    (ew, rw (ek, ec, ew, xor_back (k % 16) (w % 16)) (omega arith))

pub coded_place_lt : (i : ℕ) → coded_place i < 128
unfolding coded_place
coded_place_lt i = omega (arith, xor_16 (i % 16) (i / 128 % 16) (omega arith) (omega arith))

pub coded_from : (i : ℕ) → coded_index (i / 128) (coded_place i) ≡ i
unfolding coded_place
coded_from i =
    let small : (i % 16) ⊕ (i / 128 % 16) < 16 = xor_16 (i % 16) (i / 128 % 16) (omega arith) (omega arith) in
    let ek : (16 * (i % 128 / 16) + ((i % 16) ⊕ (i / 128 % 16))) / 16 ≡ i % 128 / 16 = omega arith in
    let ec : (16 * (i % 128 / 16) + ((i % 16) ⊕ (i / 128 % 16))) % 16 ≡ (i % 16) ⊕ (i / 128 % 16) = omega arith in
    coded_index_is (i / 128) (16 * (i % 128 / 16) + ((i % 16) ⊕ (i / 128 % 16))) ∙ rw (ek, ec, xor_back (i % 16) (i / 128 % 16)) (omega arith)

module _ (words : ℕ → Word) where
  -- Bit i of a coded pair, by its word and place.
  pub coded_laid : (i : ℕ) → i < 4096 → laid_out 128 coded_index words i ≡ words (i / 128) (128 + coded_place i)
  coded_laid i l = laid_from 128 coded_index (λ j. j / 128) coded_place coded_back words i (i / 128) (coded_place i) (omega arith) (coded_place_lt i) (coded_from i)

  -- Bit (C, r, c) of row s is bit `back_place C r c` of word 16 s + r.
  pub coded_pair_bit : (s C r c : ℕ) → s < 2 → C < 8 → r < 16 → c < 16
      → pair_bit (coded_pair words) s C r c ≡ words (16 * s + r) (back_place C r c) % 2
  unfolding coded_pair pair_bit pair_index back_place coded_place
  coded_pair_bit s C r c ls lC lr lc =
      let i = 2048 * s + (128 * r + 16 * C + c) in
      let ew : i / 128 ≡ 16 * s + r = omega arith in
      let eC : i % 128 / 16 ≡ C = omega arith in
      let ec : i % 16 ≡ c = omega arith in
      let er : (16 * s + r) % 16 ≡ r = omega arith in
      bit_pack 512 (laid_out 128 coded_index words) i (omega arith) ∙ ap (λ x. x % 2) (coded_laid i (omega arith)) ∙ rw (ew, eC, ec, er)

-- ---- payloads

-- Word and place of the bit at index i of a pair's payload.
unfoldable pub own_word : ℕ → ℕ
own_word i = cond (ltb i 3072) (i % 512 / 16) ((i - 3072) / 15)

unfoldable pub own_place : ℕ → ℕ
own_place i = cond (ltb i 3072) (16 * (i / 512) + i % 16) (96 + (i - 3072) % 15)

pub own_index_low : (w k : ℕ) → w < 32 → k < 96 → own_index w k ≡ 16 * w + 512 * (k / 16) + k % 16
unfolding own_index
own_index_low w k lw l = payload_index_low (w / 16) (w % 16) k (omega arith) l ∙ omega arith

pub own_index_high : (w k : ℕ) → w < 32 → 96 ≤ k → k < 111 → own_index w k ≡ 3072 + 15 * w + (k - 96)
unfolding own_index
own_index_high w k lw l m = payload_index_high (w / 16) (w % 16) k (omega arith) l m ∙ omega arith

pub own_index_lt : (w k : ℕ) → w < 32 → k < 111 → own_index w k < 3552
unfolding own_index
own_index_lt w k lw lk = payload_index_lt (w / 16) (w % 16) k (omega arith) (omega arith) lk

own_digits : (i a w b : ℕ) → w < 32 → b < 16 → i ≡ 512 * a + 16 * w + b → (i % 512 / 16 ≡ w) × (i / 512 ≡ a) × (i % 16 ≡ b)
own_digits i a w b lw lb e = let m : i % 512 ≡ 16 * w + b = omega arith in (rw m (omega arith), omega arith, omega arith)

own_back : (w k : ℕ) → w < 32 → k < 111 → (own_word (own_index w k) ≡ w) × (own_place (own_index w k) ≡ k)
unfolding own_word own_place
own_back w k lw lk = go (dec_lt k 96)
  where
    go : Dec (k < 96) → (own_word (own_index w k) ≡ w) × (own_place (own_index w k) ≡ k)
    go (yes l) =
        let e : own_index w k ≡ 512 * (k / 16) + 16 * w + k % 16 = own_index_low w k lw l ∙ omega arith in
        let t : ltb (own_index w k) 3072 ≡ true = lt-ltb (own_index w k) 3072 (omega arith) in
        let d = own_digits (own_index w k) (k / 16) w (k % 16) lw (omega arith) e in
        (rw t d.0, rw t (rw (d.1, d.2) (omega arith)))
    go (no l) =
        let e = own_index_high w k lw (omega arith) lk in
        let t : ltb (own_index w k) 3072 ≡ false = le-ltb (own_index w k) 3072 (omega arith) in
        let ew : (own_index w k - 3072) / 15 ≡ w = omega arith in
        let ek : 96 + (own_index w k - 3072) % 15 ≡ k = omega arith in
        (rw t ew, rw t ek)

-- The word and the place are within their bounds, and the bit's index is i.
pub record Own (i : ℕ) : Type 0 where
  pub word : own_word i < 32
  pub place : own_place i < 111
  pub is : own_index (own_word i) (own_place i) ≡ i

digits : (i : ℕ) → 16 * (i % 512 / 16) + 512 * ((16 * (i / 512) + i % 16) / 16) + (16 * (i / 512) + i % 16) % 16 ≡ i
digits i = rw (high (i / 512) (i % 16) small, low (i / 512) (i % 16) small) (omega arith)
  where
    small : i % 16 < 16
    small = omega arith

    high : (a b : ℕ) → b < 16 → (16 * a + b) / 16 ≡ a
    high a b l = omega arith

    low : (a b : ℕ) → b < 16 → (16 * a + b) % 16 ≡ b
    low a b l = omega arith

pub own_from : (i : ℕ) → i < 3552 → Own i
unfolding own_word own_place
own_from i l = go (dec_lt i 3072)
  where
    go : Dec (i < 3072) → Own i
    go (yes m) =
        let t : ltb i 3072 ≡ true = lt-ltb _ _ m in
        let lw : i % 512 / 16 < 32 = omega arith in
        let lk : 16 * (i / 512) + i % 16 < 96 = omega arith in
        record {
          word = rw t lw;
          place = rw t (omega arith);
          is = rw t (own_index_low (i % 512 / 16) (16 * (i / 512) + i % 16) lw lk ∙ digits i);
        }
    go (no m) =
        let t : ltb i 3072 ≡ false = le-ltb i 3072 (omega arith) in
        let lw : (i - 3072) / 15 < 32 = omega arith in
        record {
          word = rw t lw;
          place = rw t (omega arith);
          is = rw t (own_index_high ((i - 3072) / 15) (96 + (i - 3072) % 15) lw (omega arith) (omega arith) ∙ omega arith);
        }

module _ (words : ℕ → Word) where
  -- Bit i of a payload, by its word and place.
  pub payload_laid : (i : ℕ) → i < 3552 → laid_out 111 own_index words i ≡ words (own_word i) (128 + own_place i)
  payload_laid i l =
      let o = own_from i l in
      laid_from 111 own_index own_word own_place own_back words i (own_word i) (own_place i) o.word o.place o.is

  pub length_payload_of : length (payload_of words) ≡ 444
  unfolding payload_of
  length_payload_of = length_pack 444 (laid_out 111 own_index words)

  -- Bit 128+k of word w is payload bit `own_index w k`.
  pub payload_of_bit : (w k : ℕ) → w < 32 → k < 111 → bit (payload_of words) (own_index w k) ≡ words w (128 + k) % 2
  unfolding payload_of
  payload_of_bit w k lw lk =
      bit_pack 444 (laid_out 111 own_index words) (own_index w k) (omega (arith, own_index_lt w k lw lk))
      ∙ ap (λ x. x % 2) (laid_at_lem 111 own_index own_word own_place own_back words w k lw lk)
