-- The back halves of a pair's 32 words, one after another; coded pair and payload as the code gathers them from there.
-- Assumes nothing.
use Rattle.std.specs.Prelude.{◌≡◌, Bool, true, false, cond, List, ℕ, ◌+◌, ◌-◌, ◌*◌, ◌/◌, ◌%◌, ◌<◌, ◌≤◌, ltb, get_or}
use Rattle.std.proofs.Math.Path.{sym}
use Rattle.std.proofs.Common.{ap, ◌∙◌, mod-lt, zero-lt-suc, lt-ltb, le-ltb}
use native.Mathlib.Omega.{arith}
use Rattle.std.proofs.lemmas.Nat.{xor_block}
use Rattle.bits.specs.Bits.{bit, bit_of, byte_of, from_bits, pack}
use Rattle.bits.proofs.BitLaws.{from_bits_ext, pack_ext}
use Rattle.bits.specs.Tests.{grid}
use Rattle.bits.specs.Xor.{◌⊕◌}
use Rattle.bits.proofs.XorLaws.{⊕_lt}
use Rattle.word_spec.specs.CodeWord.{Word}
use Rattle.pair_spec.specs.Pairs.{laid_out, coded_index, own_index, coded_pair, payload_of}
use Rattle.pair_spec.proofs.PairLaws.{coded_place, coded_place_lt, coded_laid, own_word, own_place, own_from, payload_laid}
use Rattle.pair_spec.specs.Encoding.{encoded_word}
use Rattle.pair_spec.proofs.EncodingLaws.{encoded_code}
use Rattle.pair_spec.specs.Receiving.{repaired_word}
use Rattle.pair_spec.proofs.ReceivingLaws.{repaired_word_bits}

-- The back halves of all words: bit m is bit 128 + m mod 128 of word m div 128.
unfoldable pub back_halves : (ℕ → Word) → ℕ → ℕ
back_halves words m = words (m / 128) (128 + m % 128)

-- ---- where the bits of a coded pair and of a payload stand

unfoldable pub coded_source : ℕ → ℕ
coded_source i = i / 16 * 16 + ((i % 16) ⊕ (i / 128 % 16))

unfoldable pub payload_source : ℕ → ℕ
payload_source i = cond (ltb i 3072) (i % 512 / 16 * 128 + i / 512 * 16 + i % 16) ((i - 3072) / 15 * 128 + 96 + (i - 3072) % 15)

-- Where the bits of byte j come from: one byte, with its bits exchanged by ^r.
⊕_eight : (a b k l : ℕ) → k < 8 → l < 8 → (a * 8 + k) ⊕ (b * 8 + l) ≡ (a ⊕ b) * 8 + (k ⊕ l)
unfolding ◌⊕◌
⊕_eight = xor_block 3

⊕_two : (a b : ℕ) → a < 2 → b < 2 → a ⊕ b ≡ (a + b) % 2
unfolding ◌⊕◌
⊕_two = grid 2 2 (λ a b. a ⊕ b) (λ a b. (a + b) % 2) tt

eights : (a b c : ℕ) → a * 16 + (b * 8 + c) ≡ (a * 2 + b) * 8 + c
eights a b c = omega arith

ends : (a b : ℕ) → (a % 2 + b % 2) % 2 ≡ (a + b) % 2
ends a b = omega arith

sixteen : (n : ℕ) → n % 16 ≡ n / 8 % 2 * 8 + n % 8
sixteen n = omega arith

coded_byte_source : (j k : ℕ) → k < 8 → coded_source (j * 8 + k) ≡ (j / 2 * 2 + (j + j / 128) % 2) * 8 + (k ⊕ (j / 16 % 8))
unfolding coded_source
coded_byte_source j k l =
    let q : (j * 8 + k) / 16 * 16 ≡ j / 2 * 16 = omega arith in
    let c : (j * 8 + k) % 16 ≡ j % 2 * 8 + k = omega arith in
    let d : (j * 8 + k) / 128 ≡ j / 16 = omega arith in
    let u : j / 128 ≡ j / 16 / 8 = omega arith in
    let r : (j * 8 + k) / 128 % 16 ≡ j / 128 % 2 * 8 + j / 16 % 8 = ap (λ n. n % 16) d ∙ sixteen (j / 16) ∙ ap (λ n. n % 2 * 8 + j / 16 % 8) (sym u) in
    let x : (j % 2 * 8 + k) ⊕ (j / 128 % 2 * 8 + j / 16 % 8) ≡ ((j % 2) ⊕ (j / 128 % 2)) * 8 + (k ⊕ (j / 16 % 8)) =
    ⊕_eight (j % 2) (j / 128 % 2) k (j / 16 % 8) l (omega arith) in
    let t : (j % 2) ⊕ (j / 128 % 2) ≡ (j % 2 + j / 128 % 2) % 2 = ⊕_two (j % 2) (j / 128 % 2) (omega arith) (omega arith) in
    rw (q, c, r, x, t, ends j (j / 128)) (eights (j / 2) ((j + j / 128) % 2) (k ⊕ (j / 16 % 8)))

pub coded_byte_is : (s : List ℕ) (j x y : ℕ) → x ≡ get_or s (j / 2 * 2 + (j + j / 128) % 2) 0
    → y ≡ from_bits 8 (λ i. bit_of 8 x (i ⊕ (j / 16 % 8)))
    → y ≡ byte_of (λ i. bit s (coded_source i)) j
unfolding byte_of bit
coded_byte_is s j x y ex ey =
    ey ∙ from_bits_ext 8 (λ k. bit_of 8 x (k ⊕ (j / 16 % 8))) (λ k. bit s (coded_source (j * 8 + k)))
    (λ k l.
    let small : k ⊕ (j / 16 % 8) < 8 = ⊕_lt 3 k (j / 16 % 8) l (omega arith) in
    let d : coded_source (j * 8 + k) / 8 ≡ j / 2 * 2 + (j + j / 128) % 2 = omega (arith, coded_byte_source j k l) in
    let m : coded_source (j * 8 + k) % 8 ≡ k ⊕ (j / 16 % 8) = omega (arith, coded_byte_source j k l) in
    rw (d, m, ex))

-- A bit as code takes it.
pub exchanged_lt : (x n : ℕ) → x / n % 2 < 2
exchanged_lt x n = mod-lt (x / n) (zero-lt-suc 1)

pub payload_low : (i : ℕ) → i < 3072 → payload_source i ≡ i % 512 / 16 * 128 + i / 512 * 16 + i % 16
unfolding payload_source
payload_low i l = simp (lt-ltb i 3072 l)

pub payload_last : (i : ℕ) → 3072 ≤ i → payload_source i ≡ (i - 3072) / 15 * 128 + 96 + (i - 3072) % 15
unfolding payload_source
payload_last i l = simp (le-ltb i 3072 l)

coded_source_is : (i : ℕ) → coded_source i ≡ 128 * (i / 128) + coded_place i
unfolding coded_source coded_place
coded_source_is i = omega arith

payload_source_is : (i : ℕ) → payload_source i ≡ 128 * own_word i + own_place i
unfolding payload_source own_word own_place
payload_source_is i = go (ltb i 3072)
  where
    go : (t : Bool) → cond t (i % 512 / 16 * 128 + i / 512 * 16 + i % 16) ((i - 3072) / 15 * 128 + 96 + (i - 3072) % 15)
        ≡ 128 * cond t (i % 512 / 16) ((i - 3072) / 15) + cond t (16 * (i / 512) + i % 16) (96 + (i - 3072) % 15)
    go true = omega arith
    go false = omega arith

-- ---- what is gathered from the words' back halves is their coded pair and their payload

-- Where b gives the bits of the back halves.
module _ (words : ℕ → Word) (b : ℕ → ℕ) (e : (m : ℕ) → m < 4096 → b m ≡ back_halves words m) where
  back_at : (i w k : ℕ) → w < 32 → k < 128 → i ≡ 128 * w + k → b i ≡ words w (128 + k)
  unfolding back_halves
  back_at i w k lw lk p =
      let d : i / 128 ≡ w = omega arith in
      let m : i % 128 ≡ k = omega arith in
      e i (omega arith) ∙ rw (d, m)

  pub coded_gathered : pack 512 (λ i. b (coded_source i)) ≡ coded_pair words
  unfolding coded_pair
  coded_gathered =
      pack_ext 512 (λ i. b (coded_source i)) (laid_out 128 coded_index words)
      (λ i l. back_at (coded_source i) (i / 128) (coded_place i) (omega arith) (coded_place_lt i) (coded_source_is i) ∙ sym (coded_laid words i (omega arith)))

  pub payload_gathered : pack 444 (λ i. b (payload_source i)) ≡ payload_of words
  unfolding payload_of
  payload_gathered =
      pack_ext 444 (λ i. b (payload_source i)) (laid_out 111 own_index words)
      (λ i l. let o = own_from i (omega arith) in
      back_at (payload_source i) (own_word i) (own_place i) o.word (omega (arith, o.place)) (payload_source_is i) ∙ sym (payload_laid words i (omega arith)))

-- Words whose values are bits.
abbrev pub OfBits : (ℕ → Word) → Type 0
OfBits words = (w k : ℕ) → w < 32 → k < 256 → words w k < 2

pub back_bits : (words : ℕ → Word) → OfBits words → (m : ℕ) → m < 4096 → back_halves words m % 2 ≡ back_halves words m
unfolding back_halves
back_bits words bits m l = omega (arith, bits (m / 128) (128 + m % 128) (omega arith) (omega arith))

pub encoded_bits : (n : ℕ) (h : List ℕ) (P : ℕ) (y : List ℕ) → OfBits (encoded_word n h P y)
encoded_bits n h P y w k lw l = (encoded_code n h P y w).bits k l

pub repaired_bits : (n : ℕ) (h : List ℕ) (P : ℕ) (p : List ℕ) → OfBits (repaired_word n h P p)
repaired_bits n h P p w k lw l = repaired_word_bits n h P p w k
