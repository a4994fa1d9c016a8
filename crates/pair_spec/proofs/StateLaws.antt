-- What the layers above may know of the calls without opening them: when a call is accepted or refused, what an accepted call leaves for
-- the next, the lengths of what it writes, and the numbers of the accepted calls of a list.
-- Assumes nothing.
use Rattle.std.specs.Prelude.{◌≡◌, List, ◌≢◌, ℕ, suc, ◌+◌, ◌*◌, ◌^◌, ◌<◌, length, get_or}
use Rattle.std.proofs.Common.{sym, ap, subst, ◌∙◌, arith}
use Rattle.bits.proofs.BitLaws.{pack_below}
use Rattle.calls.specs.Answers.{Accepted, TurnedBack}
use Rattle.calls.proofs.CallLaws.{Own}
use Rattle.calls.specs.Sequences.{Run, Numbered}
use Rattle.calls.proofs.SequenceLaws.{numbered}
use Rattle.pair_spec.specs.Pairs.{laid_out, own_index, payload_of}
use Rattle.pair_spec.specs.History.{depth}
use Rattle.pair_spec.proofs.HistoryLaws.{length_shift}
use Rattle.pair_spec.specs.Front.{encoder_of, next_pair, held_pairs, history_of, fresh_history}
use Rattle.pair_spec.proofs.FrontLaws.{Shows, shows, shows_fresh, length_pairs}
use Rattle.pair_spec.specs.Encoding.{encoded}
use Rattle.pair_spec.specs.EncodingLaws.{length_encoded}
use Rattle.pair_spec.specs.Receiving.{repaired_word, newest_pair, payload_out, marks}
use Rattle.pair_spec.specs.ReceivingLaws.{length_newest}
use Rattle.pair_spec.proofs.ReceivingLaws.{length_payload_out, length_marks}
use Rattle.pair_spec.specs.Calls.{Encoded, Encoding, encode, Encodings, Received, Receiving, receive, Receivings}
use Rattle.pair_spec.proofs.CallLaws.{encode_accepted, encode_keeps, receive_accepted, receive_keeps}

-- ---- the numbers of a call

-- A history that shows encoder e and pair P, lent to a call that is not stray: the call names these, and where it shifts a pair in and
-- shows the next number, the one after shows e and P + 1.
module _ {e P e' P' : ℕ} {h : List ℕ} (s : Shows e P h) (o : Own (encoder_of h) (next_pair h) e' P') where
  names : (e' ≡ e) × (P' ≡ P)
  names = (sym o.encoder ∙ s.encoder, sym o.pair ∙ s.pair)

  leaves : P' ≢ 4294967295 → (pairs : List ℕ) → length pairs ≡ 512 * depth → Shows e (suc P) (history_of e' (P' + 1) pairs)
  leaves unspent pairs l =
      let n = names in
      let next : P' + 1 ≡ suc P = omega (arith, n.1) in
      let fits : suc P < 2 ^ 32 = omega (arith, s.within, unspent_at n) in
      rw (n.0, next) (shows e (suc P) pairs l s.number fits)
    where
      unspent_at : (e' ≡ e) × (P' ≡ P) → P ≢ 4294967295
      unspent_at n q = unspent (n.1 ∙ q)

-- ---- encoding

pub refused_encoding : (c : Encoding) → length c.payload ≢ 444 → TurnedBack (encode c).answer
refused_encoding c n e = n (encode_accepted c e).0.payload

module _ (c : Encoding) (ok : Accepted (encode c).answer) where
  pub encode_names : (e P : ℕ) → Shows e P c.history → (c.encoder ≡ e) × (c.pair ≡ P)
  encode_names e P s = names s (encode_accepted c ok).0.own

  pub encode_shows : (e P : ℕ) → Shows e P c.history → Shows e (suc P) (Encodings.left c)
  encode_shows e P s =
      let r = encode_accepted c ok in
      let pairs = held_pairs c.history in
      subst (Shows e (suc P)) (sym (ap (λ (a : Encoded). a.written.history) r.1))
      (leaves s r.0.own r.0.pair _
      (length_shift depth pairs (encoded depth pairs c.pair c.payload) (length_pairs c.history r.0.history) (length_encoded depth pairs c.pair c.payload)))

  pub encode_coded_length : length (encode c).written.coded ≡ 512
  encode_coded_length =
      ap (λ (a : Encoded). length a.written.coded) (encode_accepted c ok).1 ∙ length_encoded depth (held_pairs c.history) c.pair c.payload

-- 02, E2, of encoding: "From a fresh history, passed on from answer to call, the accepted calls are that encoder's pairs 0, 1, 2 and on",
-- whatever the calls of the list name and whatever the refused ones are lent.
pub encodings_numbered : (e : ℕ) → e < 2 ^ 32 → (cs : List Encoding) {t : List ℕ} → Run Encodings (fresh_history e) cs t
    → Numbered Encodings (λ c. c.encoder) (λ c. c.pair) e cs
encodings_numbered e l cs run =
    numbered Encodings encode_keeps (λ c. c.encoder) (λ c. c.pair) Shows encode_names encode_shows e (shows_fresh e l) cs run

-- ---- receiving

pub refused_receiving : (c : Receiving) → length c.coded ≢ 512 → TurnedBack (receive c).answer
refused_receiving c n e = n (receive_accepted c e).0.coded

module _ (c : Receiving) (ok : Accepted (receive c).answer) where
  pub receive_names : (e P : ℕ) → Shows e P c.history → (c.encoder ≡ e) × (c.pair ≡ P)
  receive_names e P s = names s (receive_accepted c ok).0.own

  pub receive_shows : (e P : ℕ) → Shows e P c.history → Shows e (suc P) (Receivings.left c)
  receive_shows e P s =
      let r = receive_accepted c ok in
      let pairs = held_pairs c.history in
      subst (Shows e (suc P)) (sym (ap (λ (a : Received). a.written.history) r.1))
      (leaves s r.0.own r.0.pair _
      (length_shift depth pairs (newest_pair depth pairs c.pair c.coded) (length_pairs c.history r.0.history) (length_newest depth pairs c.pair c.coded)))

  pub receive_payload_length : length (receive c).written.payload ≡ 444
  receive_payload_length =
      ap (λ (a : Received). length a.written.payload) (receive_accepted c ok).1
      ∙ length_payload_out depth (held_pairs c.history) c.pair c.coded

  pub payload_bytes : (j : ℕ) → get_or (receive c).written.payload j 0 < 256
  unfolding payload_out payload_of
  payload_bytes j =
      rw (receive_accepted c ok).1 (pack_below 444 (laid_out 111 own_index (repaired_word depth (held_pairs c.history) c.pair c.coded)) j)

  pub receive_marks_length : length (receive c).written.marks ≡ 32
  receive_marks_length =
      ap (λ (a : Received). length a.written.marks) (receive_accepted c ok).1 ∙ length_marks depth (held_pairs c.history) c.pair c.coded

-- The same of receiving.
pub receivings_numbered : (e : ℕ) → e < 2 ^ 32 → (cs : List Receiving) {t : List ℕ} → Run Receivings (fresh_history e) cs t
    → Numbered Receivings (λ c. c.encoder) (λ c. c.pair) e cs
receivings_numbered e l cs run =
    numbered Receivings receive_keeps (λ c. c.encoder) (λ c. c.pair) Shows receive_names receive_shows e (shows_fresh e l) cs run
