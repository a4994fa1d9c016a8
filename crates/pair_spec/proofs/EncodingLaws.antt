-- Laws of encoding a pair: over a history that holds the sent bits, the coded pair holds them too.
-- Assumes nothing.
use Rattle.std.specs.Prelude.{◌≡◌, refl, Bool, List, [], ℕ, ◌+◌, ◌-◌, ◌*◌, ◌/◌, ◌%◌, ◌<◌, ◌≤◌, length, get_or}
use Rattle.std.proofs.Math.Path.{sym, ap}
use Rattle.std.proofs.Common.{ap₂, ◌∙◌}
use Rattle.std.proofs.Math.Bool.{true, false, cond}
use native.Mathlib.Omega.{arith}
use Rattle.std.proofs.Math.Decide.{dec_lt}
use borrow.Author.Tests.{lt-ltb, le-ltb}
use Rattle.std.proofs.Math.Dec.{ltb}
use Rattle.bits.specs.Bits.{bit}
use Rattle.bits.proofs.BitLaws.{bit_lt}
use Rattle.word_spec.specs.CodeWord.{CodeWord}
use Rattle.word_spec.proofs.CompletionLaws.{completed_code, completed_first, completed_only}
use Rattle.pair_spec.specs.Rows.{RowBits, word_of, payload_index}
use Rattle.pair_spec.specs.RowLaws.{reach}
use Rattle.pair_spec.proofs.RowLaws.{word_lt, word_at, back_place, back_place_lt, payload_index_own, payload_index_lt}
use Rattle.pair_spec.specs.Pairs.{pair_bit, word_row, word_bit_row, own_index}
use Rattle.pair_spec.proofs.PairLaws.{coded_pair_bit}
use Rattle.pair_spec.specs.History.{held_bits}
use Rattle.pair_spec.proofs.HistoryLaws.{held_bits_lt, Right, RightPair, near_front}
use Rattle.pair_spec.specs.Sent.{payload_bit, Sent}
use Rattle.pair_spec.specs.Encoding.{open_word, encoded_word, encoded}
use Rattle.pair_spec.specs.Promise.{Holds}
use Rattle.pair_spec.specs.EncodingLaws.{length_encoded}

-- Word 16 (R mod 2) + r of pair R div 2 is that of (R, r).
pub record Numbered (P R r w : ℕ) : Type 0 where
  pub below : w < 32
  pub row : word_row P w ≡ R
  pub bit_row : word_bit_row w ≡ r
  pub half : w / 16 ≡ R % 2

pub numbered : (P R r : ℕ) → R / 2 ≡ P → r < 16 → Numbered P R r (16 * (R % 2) + r)
numbered P R r e l =
    let h : (16 * (R % 2) + r) / 16 ≡ R % 2 = omega arith in
    record { below = omega arith; row = rw h (omega arith); bit_row = omega arith; half = h }

pub of_pair : (P w : ℕ) → w < 32 → word_row P w / 2 ≡ P
of_pair P w l = omega arith

module _ (n : ℕ) (h : List ℕ) (P : ℕ) (y : List ℕ) where
  pub open_front : (w k : ℕ) → k < 128 → open_word n h P y w k ≡ word_of (held_bits n h P) (word_row P w) (word_bit_row w) k
  unfolding open_word
  open_front w k l = simp (lt-ltb _ _ l)

  pub open_back : (w k : ℕ) → open_word n h P y w (128 + k) ≡ bit y (own_index w k)
  unfolding open_word
  open_back w k =
      let t : ltb (128 + k) 128 ≡ false = le-ltb (128 + k) 128 (omega arith) in
      let e : 128 + k - 128 ≡ k = omega arith in
      rw (t, e)

  pub open_bits : (w k : ℕ) → open_word n h P y w k < 2
  unfolding open_word
  open_bits w k = go (ltb k 128)
    where
      go : (t : Bool) → cond t (word_of (held_bits n h P) (word_row P w) (word_bit_row w) k) (bit y (own_index w (k - 128))) < 2
      go true = word_lt (held_bits n h P) (held_bits_lt n h P) (word_row P w) (word_bit_row w) k
      go false = bit_lt y (own_index w (k - 128))

  pub encoded_code : (w : ℕ) → CodeWord (encoded_word n h P y w)
  unfolding encoded_word
  encoded_code w = completed_code (open_word n h P y w) (λ k l. open_bits w k)

  pub encoded_open : (w k : ℕ) → k < 239 → encoded_word n h P y w k ≡ open_word n h P y w k
  unfolding encoded_word
  encoded_open w k l = completed_first (open_word n h P y w) k l

  -- The coded pair has the words' back halves.
  pub encoded_bit : (R C r c : ℕ) → C < 8 → r < 16 → c < 16
      → pair_bit (encoded n h P y) (R % 2) C r c ≡ encoded_word n h P y (16 * (R % 2) + r) (back_place C r c)
  unfolding encoded
  encoded_bit R C r c lC lr lc =
      coded_pair_bit (encoded_word n h P y) (R % 2) C r c (omega arith) lC lr lc
      ∙ omega (arith, (encoded_code (16 * (R % 2) + r)).bits (back_place C r c) (back_place_lt C r c lC lr lc))

-- Payload bits of a pair among the payloads of all.
pub payload_bit_own : (ys : List (List ℕ)) (R r k : ℕ) → r < 16 → k < 111
    → payload_bit ys (payload_index R r k) ≡ bit (get_or ys (R / 2) []) (payload_index (R % 2) r k)
unfolding payload_bit
payload_bit_own ys R r k lr lk =
    let e = payload_index_own R r k in
    let l = payload_index_lt (R % 2) r k (omega arith) lr lk in
    let d : payload_index R r k / 3552 ≡ R / 2 = omega arith in
    let m : payload_index R r k % 3552 ≡ payload_index (R % 2) r k = omega arith in
    rw (d, m)

module _ {S : RowBits} {ys : List (List ℕ)} (sent : Sent ys S) {n : ℕ} (far : reach ≤ n) {P : ℕ} {h : List ℕ} (inv : Right n S S P h) (within : P < length ys) where
  -- The open word has the sent word's bits.
  open_sent : (w k : ℕ) → w < 32 → k < 239 → word_of S (word_row P w) (word_bit_row w) k ≡ open_word n h P (get_or ys P []) w k
  unfolding own_index
  open_sent w k lw lk = go (dec_lt k 128)
    where
      go : Dec (k < 128) → word_of S (word_row P w) (word_bit_row w) k ≡ open_word n h P (get_or ys P []) w k
      go (yes l) = sym (open_front n h P (get_or ys P []) w k l ∙ near_front far inv (word_row P w) (word_bit_row w) k (of_pair P w lw) (omega arith) l refl)
      go (no l) =
          let e : 128 + (k - 128) ≡ k = omega arith in
          let d : word_row P w / 2 ≡ P = of_pair P w lw in
          let m : word_row P w % 2 ≡ w / 16 = omega arith in
          ap (word_of S (word_row P w) (word_bit_row w)) (sym e)
          ∙ sent.payload.placed (word_row P w) (word_bit_row w) (k - 128) (omega arith) (omega arith) (omega arith)
          ∙ payload_bit_own ys (word_row P w) (word_bit_row w) (k - 128) (omega arith) (omega arith)
          ∙ rw (d, m) (sym (open_back n h P (get_or ys P []) w (k - 128)))
          ∙ ap (open_word n h P (get_or ys P []) w) e

  -- So the coded word is the sent word,
  encoded_sent : (w k : ℕ) → w < 32 → k < 256 → word_of S (word_row P w) (word_bit_row w) k ≡ encoded_word n h P (get_or ys P []) w k
  unfolding encoded_word
  encoded_sent w k lw lk =
      completed_only (open_word n h P (get_or ys P []) w) (word_of S (word_row P w) (word_bit_row w)) (sent.words.code (word_row P w) (word_bit_row w) (omega arith) (omega arith))
      (λ j l. open_sent w j lw l) k lk

  -- and the coded pair holds the sent bits.
  pub encoded_holds : Holds S P (encoded n h P (get_or ys P []))
  encoded_holds =
      record {
        holds = λ R C r c e lC lr lc.
            let w = numbered P R r e lr in
            encoded_bit n h P (get_or ys P []) R C r c lC lr lc
            ∙ sym (encoded_sent (16 * (R % 2) + r) (back_place C r c) w.below (back_place_lt C r c lC lr lc))
            ∙ ap₂ (λ (Q a : ℕ). word_of S Q a (back_place C r c)) w.row w.bit_row
            ∙ word_at S R C r c lr lc;
      }

  pub encoded_right : RightPair S S P (encoded n h P (get_or ys P []))
  encoded_right =
      record { size = length_encoded n h P (get_or ys P []); right = λ R C r c e lC lr lc same. encoded_holds.holds R C r c e lC lr lc }
