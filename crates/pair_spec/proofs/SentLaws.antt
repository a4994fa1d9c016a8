-- Laws of the sent bits: they can be met, the encoder's step from fresh meets them, and they are fixed.
-- Assumes nothing.
use Rattle.std.specs.Prelude.{◌≡◌, List, [], length, get_or}
use Rattle.std.proofs.Math.Path.{refl, sym, ap₂}
use Rattle.std.proofs.Common.{ap, ◌∙◌, arith}
use Prim.Native.Nat.{ℕ, zero, suc, ◌+◌, ◌-◌, ◌*◌, ◌/◌, ◌%◌, ◌<◌, ◌≤◌}
use Rattle.std.proofs.Math.Decide.{dec_lt}
use Rattle.bits.specs.Bits.{bit}
use Rattle.bits.specs.Xor.{◌⊕◌}
use Rattle.word_spec.specs.CodeWord.{Word, CodeWord}
use Rattle.word_spec.proofs.RepairLaws.{code_ext}
use Rattle.pair_spec.specs.Rows.{RowBits, back_bit, word_of, payload_index}
use Rattle.pair_spec.specs.RowLaws.{reach}
use Rattle.pair_spec.proofs.RowLaws.{word_back, back_place_of, xor_16}
use Rattle.pair_spec.specs.Pairs.{pair_bit, own_index}
use Rattle.pair_spec.specs.History.{depth, held_bits}
use Rattle.pair_spec.proofs.HistoryLaws.{deep, Right, right_fresh, right_shift, right_after, history_after, near_front}
use Rattle.pair_spec.specs.Sent.{payload_bit, Sent}
use Rattle.pair_spec.specs.Encoding.{encoded_word, encoded}
use Rattle.pair_spec.specs.EncodingLaws.{length_encoded}
use Rattle.pair_spec.proofs.EncodingLaws.{Numbered, numbered, open_front, open_back, encoded_code, encoded_open}
use Rattle.pair_spec.proofs.EncodingLaws.{encoded_bit, encoded_holds, encoded_right, payload_bit_own}
use Rattle.pair_spec.specs.Promise.{Holds}

-- The history of n pairs of an encoder before pair P.
unfoldable pub encoder_history : ℕ → List (List ℕ) → ℕ → List ℕ
encoder_history n ys = history_after n (encoded n) (λ i. get_or ys i [])

-- It holds the sent bits.
pub encoder_right : {n : ℕ} → reach ≤ n → {S : RowBits} {ys : List (List ℕ)} → Sent ys S → (m : ℕ) → m ≤ length ys
    → Right n S S m (encoder_history n ys m)
unfolding encoder_history
encoder_right {n} far {S} {ys} sent m l =
    right_after (omega arith) S S (encoded n) (λ i. get_or ys i []) m (λ P h lP inv. encoded_right sent far inv (omega arith))

-- ---- the bits that the encoder makes

unfoldable pub made_bits : List (List ℕ) → RowBits
made_bits ys R C r c = pair_bit (encoded depth (encoder_history depth ys (R / 2)) (R / 2) (get_or ys (R / 2) [])) (R % 2) C r c

module _ (ys : List (List ℕ)) where
  made_holds : (P : ℕ) → Holds (made_bits ys) P (encoded depth (encoder_history depth ys P) P (get_or ys P []))
  unfolding made_bits
  made_holds P = record { holds = λ R C r c e lC lr lc. rw e }

  made_right : (n : ℕ) → Right depth (made_bits ys) (made_bits ys) n (encoder_history depth ys n)
  unfolding encoder_history history_after
  made_right zero = right_fresh depth (made_bits ys) (made_bits ys)
  made_right (suc n) =
      right_shift (omega arith) (made_right n)
      (record {
        size = length_encoded depth (encoder_history depth ys n) n (get_or ys n []);
        right = λ R C r c e lC lr lc w. (made_holds n).holds R C r c e lC lr lc;
      })

  -- The words of these bits are the encoder's.
  module _ (R r : ℕ) (lr : r < 16) where
    word : Word
    word = encoded_word depth (encoder_history depth ys (R / 2)) (R / 2) (get_or ys (R / 2) []) (16 * (R % 2) + r)

    made_word : (k : ℕ) → k < 256 → word k ≡ word_of (made_bits ys) R r k
    unfolding word back_bit
    made_word k lk = go (dec_lt k 128)
      where
        n : Numbered (R / 2) R r (16 * (R % 2) + r)
        n = numbered (R / 2) R r refl lr

        go : Dec (k < 128) → encoded_word depth (encoder_history depth ys (R / 2)) (R / 2) (get_or ys (R / 2) []) (16 * (R % 2) + r) k ≡ word_of (made_bits ys) R r k
        go (yes l) =
            encoded_open depth (encoder_history depth ys (R / 2)) (R / 2) (get_or ys (R / 2) []) (16 * (R % 2) + r) k (omega arith)
            ∙ open_front depth (encoder_history depth ys (R / 2)) (R / 2) (get_or ys (R / 2) []) (16 * (R % 2) + r) k l
            ∙ ap₂ (λ (Q a : ℕ). word_of (held_bits depth (encoder_history depth ys (R / 2)) (R / 2)) Q a k) n.row n.bit_row
            ∙ near_front deep (made_right (R / 2)) R r k refl lr l refl
        go (no l) =
            let m : 128 ≤ k = omega arith in
            let small : (k % 16) ⊕ r < 16 = xor_16 (k % 16) r (omega arith) lr in
            ap (encoded_word depth (encoder_history depth ys (R / 2)) (R / 2) (get_or ys (R / 2) []) (16 * (R % 2) + r)) (sym (back_place_of r k m))
            ∙ sym (encoded_bit depth (encoder_history depth ys (R / 2)) (R / 2) (get_or ys (R / 2) []) R ((k - 128) / 16) r ((k % 16) ⊕ r) (omega arith) lr small)
            ∙ (made_holds (R / 2)).holds R ((k - 128) / 16) r ((k % 16) ⊕ r) refl (omega arith) lr small
            ∙ sym (word_back (made_bits ys) R r k m)

    made_code : CodeWord (word_of (made_bits ys) R r)
    unfolding word
    made_code =
        code_ext word (word_of (made_bits ys) R r) made_word
        (encoded_code depth (encoder_history depth ys (R / 2)) (R / 2) (get_or ys (R / 2) []) (16 * (R % 2) + r))

    made_payload : (k : ℕ) → k < 111 → word_of (made_bits ys) R r (128 + k) ≡ payload_bit ys (payload_index R r k)
    unfolding word own_index
    made_payload k lk =
        let n = numbered (R / 2) R r refl lr in
        sym (made_word (128 + k) (omega arith))
        ∙ encoded_open depth (encoder_history depth ys (R / 2)) (R / 2) (get_or ys (R / 2) []) (16 * (R % 2) + r) (128 + k) (omega arith)
        ∙ open_back depth (encoder_history depth ys (R / 2)) (R / 2) (get_or ys (R / 2) []) (16 * (R % 2) + r) k
        ∙ ap₂ (λ (s a : ℕ). bit (get_or ys (R / 2) []) (payload_index s a k)) n.half n.bit_row
        ∙ sym (payload_bit_own ys R r k lr lk)

  -- The formulas can be met.
  pub sent_exists : Sent ys (made_bits ys)
  sent_exists =
      record {
        payload = record { placed = λ R r k l lr lk. made_payload R r lr k lk };
        words = record { code = λ R r l lr. made_code R r lr };
      }

-- The formulas leave no choice: bits that meet them for the same payloads are the same.
pub sent_only : (ys : List (List ℕ)) (S Z : RowBits) → Sent ys S → Sent ys Z → (R C r c : ℕ) → R < 2 * length ys → C < 8 → r < 16 → c < 16
    → S R C r c ≡ Z R C r c
sent_only ys S Z a b R C r c l lC lr lc =
    sym ((encoded_holds a deep (encoder_right deep a (R / 2) (omega arith)) (omega arith)).holds R C r c refl lC lr lc)
    ∙ (encoded_holds b deep (encoder_right deep b (R / 2) (omega arith)) (omega arith)).holds R C r c refl lC lr lc
