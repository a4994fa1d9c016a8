-- Lists of calls from fresh: the coded pairs of an encoder hold the bits that the formulas fix, and the promise holds of every word
-- that a receiver takes, whatever the received pairs hold, within the limit of three wrong bits in a word.
-- Assumes nothing.
use Rattle.std.specs.Prelude.{◌≡◌, true, ◌⊎◌}
use Rattle.std.proofs.Math.Path.{refl, sym, ap, ap₂, subst}
use Rattle.std.proofs.Common.{◌∙◌, add-one}
use mathlib.Core.List.{List, [], ◌++◌, map}
use Rattle.std.proofs.Math.Logic.{⊎_elim}
use Prim.Native.Nat.{ℕ, suc, ◌+◌, ◌-◌, ◌*◌, ◌/◌, ◌%◌, ◌^◌, ◌<◌, ◌≤◌}
use native.Mathlib.Omega.{arith}
use Rattle.std.proofs.Math.Decide.{dec_lt}
use Rattle.std.proofs.Math.ListN.{length, get_or, length-map}
use Rattle.bits.specs.Bits.{bit}
use Rattle.bits.proofs.CountLaws.{distance_ext}
use Rattle.std.specs.Prelude.{Ok}
use Rattle.calls.specs.Answers.{Accepted}
use Rattle.calls.specs.Sequences.{At, Run, accepted}
use Rattle.calls.proofs.SequenceLaws.{At_lt, At_find, At_map, is_accepted, holds_at}
use Rattle.bits.specs.Xor.{◌⊕◌}
use Rattle.word_spec.specs.CodeWord.{Word, CodeWord}
use Rattle.word_spec.specs.Repair.{repair, repaired, mark}
use Rattle.word_spec.specs.Marks.{not_lost, lost, mark_meaning}
use Rattle.word_spec.proofs.RepairLaws.{mark_says, not_both, lost_is}
use Rattle.word_spec.specs.declared.Repair.{Repair}
use Rattle.pair_spec.specs.Rows.{RowBits, front_counts, Checked, back_bit, word_of, payload_index}
use Rattle.pair_spec.specs.RowLaws.{reach, Place, zeros, before, own}
use Rattle.pair_spec.proofs.RowLaws.{all_checked, word_back, back_place_of, xor_16, place}
use Rattle.pair_spec.specs.History.{depth, held_bits, shift}
use Rattle.pair_spec.proofs.HistoryLaws.{deep, held_shifted, held_newest, near, Right, history_after}
use Rattle.pair_spec.specs.Front.{held_pairs, history_of, fresh_history}
use Rattle.pair_spec.proofs.FrontLaws.{pairs_of}
use Rattle.pair_spec.specs.Sent.{Sent}
use Rattle.pair_spec.specs.Encoding.{encoded}
use Rattle.pair_spec.proofs.EncodingLaws.{encoded_holds}
use Rattle.pair_spec.proofs.SentLaws.{encoder_history, encoder_right}
use Rattle.pair_spec.specs.Receiving.{repair_of, repaired_word, newest_pair, payload_out, marks}
use Rattle.pair_spec.proofs.ReceivingLaws.{newest_bit, payload_bit_lem, mark_is, repair_of_lem, repaired_word_is, word_outcome, receiver_history}
use Rattle.pair_spec.proofs.ReceivingLaws.{receiver_right}
use Rattle.pair_spec.proofs.WordLaws.{WordOutcome}
use Rattle.pair_spec.specs.Calls.{Encoded, Received, after_receive, Encoding, Receiving, encode}
use Rattle.pair_spec.specs.Calls.{receive, Encodings, Receivings, payloads}
use Rattle.pair_spec.proofs.CallLaws.{encode_accepted, encode_keeps, receive_done, receive_accepted, receive_keeps}
use Rattle.pair_spec.proofs.StateLaws.{encodings_numbered, receivings_numbered}
use Rattle.pair_spec.specs.Promise.{Holds, Takes, wrong_bits, Limit, mark_of, NotLost, Lost, AsSent, Promise}

-- ---- what each accepted call is lent

module _ (cs : List Encoding) where
  given_at_lem : {i : ℕ} {c : Encoding} → At (accepted Encodings cs) i c → get_or (payloads cs) i [] ≡ c.payload
  unfolding payloads
  given_at_lem a = At_map (λ (c : Encoding). c.payload) [] a

  payloads_lt : {i : ℕ} {c : Encoding} → At (accepted Encodings cs) i c → i < length (payloads cs)
  unfolding payloads
  payloads_lt a = omega (arith, At_lt a, length-map (accepted Encodings cs) (λ (c : Encoding). c.payload))

-- A list of encoding calls from a fresh history of encoder e.
module _ (cs : List Encoding) {e : ℕ} (small : e < 2 ^ 32) {t : List ℕ} (run : Run Encodings (fresh_history e) cs t) where
  -- Call number i is lent the encoder's history before pair i.
  pub encoder_lent : (i : ℕ) (c : Encoding) → At (accepted Encodings cs) i c → c.history ≡ history_of e i (encoder_history depth (payloads cs) i)
  unfolding encoder_history history_after
  encoder_lent = holds_at Encodings encode_keeps (λ i h. h ≡ history_of e i (encoder_history depth (payloads cs) i)) run refl next
    where
      next : (i : ℕ) (c : Encoding) → At (accepted Encodings cs) i c → c.history ≡ history_of e i (encoder_history depth (payloads cs) i)
          → (encode c).written.history ≡ history_of e (suc i) (encoder_history depth (payloads cs) (suc i))
      next i c a is =
          let n = encodings_numbered e small cs run i c a in
          let eh : held_pairs c.history ≡ encoder_history depth (payloads cs) i = ap held_pairs is ∙ pairs_of e i _ in
          let one : c.pair + 1 ≡ suc i = omega (arith, n.1) in
          let ey : c.payload ≡ get_or (payloads cs) i [] = sym (given_at_lem cs a) in
          ap (λ (x : Encoded). x.written.history) (encode_accepted c (is_accepted Encodings cs a)).1
          ∙ ap₂ (λ d P. history_of d P (shift (held_pairs c.history) (encoded depth (held_pairs c.history) c.pair c.payload))) n.0 one
          ∙ ap (history_of e (suc i)) (ap₂ shift eh (ap₂ (λ h P. encoded depth h P c.payload) eh n.1 ∙ ap (encoded depth (encoder_history depth (payloads cs) i) i) ey))

  -- From fresh, whatever refused calls stand between, the coded pair of each accepted call is the one of that history,
  pub coded_made : (P : ℕ) (c : Encoding) → At (accepted Encodings cs) P c
      → (encode c).written.coded ≡ encoded depth (encoder_history depth (payloads cs) P) P (get_or (payloads cs) P [])
  coded_made P c a =
      let n = encodings_numbered e small cs run P c a in
      let eh : held_pairs c.history ≡ encoder_history depth (payloads cs) P = ap held_pairs (encoder_lent P c a) ∙ pairs_of e P _ in
      ap (λ (x : Encoded). x.written.coded) (encode_accepted c (is_accepted Encodings cs a)).1
      ∙ ap₂ (λ h Q. encoded depth h Q c.payload) eh n.1
      ∙ ap (encoded depth (encoder_history depth (payloads cs) P) P) (sym (given_at_lem cs a))

  -- and holds the bits that the formulas fix.
  pub coded_sent : (v : RowBits) → Sent (payloads cs) v → (P : ℕ) (c : Encoding) → At (accepted Encodings cs) P c
      → Holds v P (encode c).written.coded
  coded_sent v sent P c a =
      let within : P < length (payloads cs) = payloads_lt cs a in
      subst (λ q. Holds v P q) (sym (coded_made P c a)) (encoded_holds sent deep (encoder_right deep sent P (omega arith)) within)

-- A list of receiving calls from a fresh history of encoder e, whose accepted ones take these pairs in order.
module _ (cs : List Receiving) (pair : ℕ → List ℕ) (in_order : (P : ℕ) (c : Receiving) → At (accepted Receivings cs) P c → c.coded ≡ pair P) {e : ℕ}
    (small : e < 2 ^ 32) {t : List ℕ} (run : Run Receivings (fresh_history e) cs t) where
  -- Call number i is lent the receiver's history before pair i,
  receiver_lent : (i : ℕ) (c : Receiving) → At (accepted Receivings cs) i c → c.history ≡ history_of e i (receiver_history depth pair i)
  unfolding receiver_history history_after
  receiver_lent = holds_at Receivings receive_keeps (λ i h. h ≡ history_of e i (receiver_history depth pair i)) run refl next
    where
      next : (i : ℕ) (c : Receiving) → At (accepted Receivings cs) i c → c.history ≡ history_of e i (receiver_history depth pair i)
          → (receive c).written.history ≡ history_of e (suc i) (receiver_history depth pair (suc i))
      next i c a is =
          let n = receivings_numbered e small cs run i c a in
          let eh : held_pairs c.history ≡ receiver_history depth pair i = ap held_pairs is ∙ pairs_of e i _ in
          let one : c.pair + 1 ≡ suc i = omega (arith, n.1) in
          ap (λ (x : Received). x.written.history) (receive_accepted c (is_accepted Receivings cs a)).1
          ∙ ap₂ (λ d P. history_of d P (shift (held_pairs c.history) (newest_pair depth (held_pairs c.history) c.pair c.coded))) n.0 one
          ∙ ap (history_of e (suc i)) (ap₂ shift eh (ap₂ (λ h P. newest_pair depth h P c.coded) eh n.1 ∙ ap (newest_pair depth (receiver_history depth pair i) i) (in_order i c a)))

  -- whose pairs are,
  pub receiver_pairs : (i : ℕ) (c : Receiving) → At (accepted Receivings cs) i c → held_pairs c.history ≡ receiver_history depth pair i
  receiver_pairs i c a = ap held_pairs (receiver_lent i c a) ∙ pairs_of e i _

  -- and leaves what receiving pair i of it gives.
  pub received_made : (P : ℕ) (c : Receiving) → At (accepted Receivings cs) P c
      → receive c ≡ after_receive (Ok (P + 1)) (payload_out depth (receiver_history depth pair P) P (pair P)) (marks depth (receiver_history depth pair P) P (pair P)) (history_of e (suc P) (receiver_history depth pair (suc P)))
  unfolding receiver_history history_after
  received_made P c a =
      let n = receivings_numbered e small cs run P c a in
      (receive_accepted c (is_accepted Receivings cs a)).1
      ∙ ap₂ (λ h Q. received_of c.encoder h Q c.coded) (receiver_pairs P c a) n.1
      ∙ ap₂ (λ d y. received_of d (receiver_history depth pair P) P y) n.0 (in_order P c a)
      ∙ ap (λ Q. after_receive (Ok (P + 1)) (payload_out depth (receiver_history depth pair P) P (pair P)) (marks depth (receiver_history depth pair P) P (pair P)) (history_of e Q (receiver_history depth pair (suc P)))) (add-one P)
    where
      received_of : ℕ → List ℕ → ℕ → List ℕ → Received
      received_of d pairs Q coded =
          after_receive (Ok (Q + 1)) (payload_out depth pairs Q coded) (marks depth pairs Q coded) (history_of d (Q + 1) (shift pairs (newest_pair depth pairs Q coded)))

-- ---- one word, checked, of a call on pair R div 2 with a history of n pairs that is right and a pair that was delivered

module _ {n : ℕ} (far : reach ≤ n) {S W : RowBits} (c : Receiving) (R r : ℕ) (lr : r < 16) (number : c.pair ≡ R / 2) (t : Checked R)
    (inv : Right n S W (R / 2) (held_pairs c.history)) (holds : Holds W (R / 2) c.coded) (code : CodeWord (word_of S R r)) (three : wrong_bits S W R r ≤ 3) where
  -- The word as held, and its repair.
  abbrev held : Word
  held = word_of (held_bits n (held_pairs c.history ++ c.coded) (R / 2)) R r

  abbrev fix : Repair
  fix = repair (front_counts R) (word_of (held_bits n (held_pairs c.history ++ c.coded) (R / 2)) R r)

  abbrev newest : List ℕ
  newest = newest_pair n (held_pairs c.history) (R / 2) c.coded

  mark_at : mark_of (receive_done n c) R r ≡ mark fix
  mark_at =
      ap (λ P. get_or (marks n (held_pairs c.history) P c.coded) (16 * (R % 2) + r) 0) number
      ∙ mark_is n (held_pairs c.history) (R / 2) c.coded (16 * (R % 2) + r) (omega arith)
      ∙ ap mark (repair_of_lem n (held_pairs c.history) (R / 2) c.coded R r refl lr true t)

  repaired_word_at : (k : ℕ) → repaired_word n (held_pairs c.history) (R / 2) c.coded (16 * (R % 2) + r) k ≡ repaired fix held k
  repaired_word_at k =
      ap (λ (w : Word). w k) (repaired_word_is n (held_pairs c.history) (R / 2) c.coded R r refl lr _ (repair_of_lem n (held_pairs c.history) (R / 2) c.coded R r refl lr true t))

  newest_at : (k : ℕ) → 128 ≤ k → k < 256 → word_of (held_bits n (held_pairs (receive_done n c).written.history) (R / 2 + 1)) R r k ≡ repaired fix held k
  unfolding back_bit
  newest_at k low lk =
      let one : R / 2 + 1 ≡ suc (R / 2) = omega arith in
      let lC : (k - 128) / 16 < 8 = omega arith in
      let small : (k % 16) ⊕ r < 16 = xor_16 (k % 16) r (omega arith) lr in
      ap (λ h. word_of (held_bits n h (R / 2 + 1)) R r k) (pairs_of c.encoder (c.pair + 1) (shift (held_pairs c.history) (newest_pair n (held_pairs c.history) c.pair c.coded)))
      ∙ ap₂ (λ (Q P : ℕ). word_of (held_bits n (shift (held_pairs c.history) (newest_pair n (held_pairs c.history) Q c.coded)) P) R r k) number one
      ∙ word_back (held_bits n (shift (held_pairs c.history) newest) (suc (R / 2))) R r k low
      ∙ held_shifted n (held_pairs c.history) newest (R / 2) inv.size R ((k - 128) / 16) r ((k % 16) ⊕ r) lC lr small (omega arith)
      ∙ held_newest n (held_pairs c.history) newest (R / 2) inv.size R ((k - 128) / 16) r ((k % 16) ⊕ r) lC lr small refl
      ∙ newest_bit n (held_pairs c.history) (R / 2) c.coded R ((k - 128) / 16) r ((k % 16) ⊕ r) lC lr small
      ∙ ap (repaired_word n (held_pairs c.history) (R / 2) c.coded (16 * (R % 2) + r)) (back_place_of r k low)
      ∙ repaired_word_at k

  payload_at_lem : (k : ℕ) → 128 ≤ k → k < 239
      → bit (receive_done n c).written.payload (payload_index (R % 2) r (k - 128)) ≡ repaired fix held k
  payload_at_lem k low lk =
      let e : 128 + (k - 128) ≡ k = omega arith in
      ap (λ P. bit (payload_out n (held_pairs c.history) P c.coded) (payload_index (R % 2) r (k - 128))) number
      ∙ payload_bit_lem n (held_pairs c.history) (R / 2) c.coded R r (k - 128) lr (omega arith)
      ∙ ap (repaired_word n (held_pairs c.history) (R / 2) c.coded (16 * (R % 2) + r)) e
      ∙ repaired_word_at k

  one_word : Promise n S W c (receive_done n c) R r
  unfolding wrong_bits
  one_word =
      record {
        right = λ k low lk e. as_sent k low lk (o.right k lk e);
        whole = λ kept k low lk. as_sent k low lk (o.whole (ap mark_meaning (sym mark_at) ∙ kept) k lk);
        flips = λ kept. mark_at ∙ o.flips (ap mark_meaning (sym mark_at) ∙ kept);
        two_not_lost = λ _ two. ap mark_meaning mark_at ∙ o.two_not_lost two;
      }
    where
      o : WordOutcome (word_of S R r) (word_of W R r) held fix
      o = word_outcome far inv c.coded holds R r refl lr code three

      as_sent : (k : ℕ) → 128 ≤ k → k < 256 → repaired fix held k ≡ word_of S R r k → AsSent n S (receive_done n c) R r k
      as_sent k low lk e = record { newest = newest_at k low lk ∙ e; paid = λ l. payload_at_lem k low l ∙ e }

-- ---- receiving

-- Every word of an accepted call is marked not lost or lost; `not_both` says that none is marked both.
pub marked_one : (c : Receiving) → Accepted (receive c).answer → (R r : ℕ) → r < 16 → NotLost (receive c) R r ⊎ Lost (receive c) R r
marked_one c a R r lr =
    subst (λ m. (mark_meaning m ≡ not_lost) ⊎ (mark_meaning m ≡ lost))
    (sym (ap (λ (d : Received). mark_of d R r) (receive_accepted c a).1
    ∙ mark_is depth (held_pairs c.history) c.pair c.coded (16 * (R % 2) + r) (omega arith)))
    (mark_says (repair_of depth (held_pairs c.history) c.pair c.coded (16 * (R % 2) + r)))

module _ (S W : RowBits) (ys : List (List ℕ)) (sent : Sent ys S) (cs : List Receiving) {e : ℕ} (small : e < 2 ^ 32) {t : List ℕ}
    (run : Run Receivings (fresh_history e) cs t) (enough : length (accepted Receivings cs) ≤ length ys) (takes : Takes W cs) (limit : Limit S W (length (accepted Receivings cs))) where
  -- The pairs taken, and the receiver's history before pair P.
  pair : ℕ → List ℕ
  pair i = get_or (map (λ (c : Receiving). c.coded) (accepted Receivings cs)) i []

  history : ℕ → List ℕ
  history = receiver_history depth pair

  pair_at : {i : ℕ} {c : Receiving} → At (accepted Receivings cs) i c → pair i ≡ c.coded
  unfolding pair
  pair_at a = At_map (λ (c : Receiving). c.coded) [] a

  pair_holds : (P : ℕ) → P < length (accepted Receivings cs) → Holds W P (pair P)
  pair_holds P l =
      let f = At_find (accepted Receivings cs) P l in
      subst (λ q. Holds W P q) (sym (pair_at f.1)) (takes.takes P f.0 f.1)

  right_lent : (P : ℕ) (c : Receiving) → At (accepted Receivings cs) P c → Right depth S W P (held_pairs c.history)
  unfolding history
  right_lent P c a =
      let within : P < length (accepted Receivings cs) = At_lt a in
      subst (λ h. Right depth S W P h) (sym (receiver_pairs cs pair (λ Q d b. sym (pair_at b)) small run P c a))
      (receiver_right deep pair (length (accepted Receivings cs)) pair_holds (λ R r l lr _. sent.words.code R r (omega arith) lr) limit P (omega arith))

  -- THE PROMISE of the code layer: it holds of each word (R, r) that an accepted call took.
  pub promise : (R r : ℕ) (c : Receiving) → r < 16 → At (accepted Receivings cs) (R / 2) c → Promise depth S W c (receive c) R r
  promise R r c lr a =
      let within : R / 2 < length (accepted Receivings cs) = At_lt a in
      subst (λ after. Promise depth S W c after R r) (sym (receive_accepted c (is_accepted Receivings cs a)).1)
      (one_word deep c R r lr (receivings_numbered e small cs run (R / 2) c a).1 (all_checked R) (right_lent (R / 2) c a) (takes.takes (R / 2) c a)
      (sent.words.code R r (omega arith) lr) (limit.three R r (omega arith) lr (all_checked R)))

  -- Where the front half of a word was delivered right, its mark is the number of its wrong bits: 3, lost, where they are three.
  pub mark_exact : (R r : ℕ) (c : Receiving) → r < 16 → At (accepted Receivings cs) (R / 2) c
      → ((k : ℕ) → k < 128 → word_of W R r k ≡ word_of S R r k)
      → mark_of (receive c) R r ≡ wrong_bits S W R r
  unfolding wrong_bits
  mark_exact R r c lr a front = ⊎_elim kept gone (marked_one c (is_accepted Receivings cs a) R r lr)
    where
      -- The word as held is as delivered.
      at : (k : ℕ) → k < 256 → Place R r k → word_of (held_bits depth (held_pairs c.history ++ c.coded) (R / 2)) R r k ≡ word_of W R r k
      at k lk (zeros m is) = is (held_bits depth (held_pairs c.history ++ c.coded) (R / 2)) ∙ sym (is W)
      at k lk (before Q C b d m lo hi lC lb ld is) =
          near deep (right_lent (R / 2) c a) R r k refl lr c.coded (takes.takes (R / 2) c a) lk (front k m) ∙ sym (front k m)
      at k lk (own C d m lC ld is) =
          is (held_bits depth (held_pairs c.history ++ c.coded) (R / 2))
          ∙ held_newest depth (held_pairs c.history) c.coded (R / 2) (right_lent (R / 2) c a).size R C r d lC lr ld refl
          ∙ (takes.takes (R / 2) c a).holds R C r d refl lC lr ld
          ∙ sym (is W)

      kept : NotLost (receive c) R r → mark_of (receive c) R r ≡ wrong_bits S W R r
      kept n =
          (promise R r c lr a).flips n
          ∙ distance_ext 256 (word_of (held_bits depth (held_pairs c.history ++ c.coded) (R / 2)) R r) (word_of S R r) (word_of W R r) (word_of S R r)
          (λ k l. at k l (place R r k lr l)) (λ k l. refl)

      gone : Lost (receive c) R r → mark_of (receive c) R r ≡ wrong_bits S W R r
      gone g =
          full (dec_lt (wrong_bits S W R r) 3) (limit.three R r (omega (arith, At_lt a)) lr (all_checked R)) (lost_is (mark_of (receive c) R r) g)
        where
          full : Dec (wrong_bits S W R r < 3) → wrong_bits S W R r ≤ 3 → mark_of (receive c) R r ≡ 3
              → mark_of (receive c) R r ≡ wrong_bits S W R r
          full (yes few) l m = absurd (not_both (mark_of (receive c) R r) ((promise R r c lr a).two_not_lost (all_checked R) (omega arith)) g)
          full (no n) l m = omega arith
