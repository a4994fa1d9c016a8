-- Laws of the lists of Runs.antt: each is a run of accepted calls from fresh, with what it was given in order.
-- Assumes nothing.
use Rattle.std.specs.Prelude.{◌≡◌, refl, ℕ, suc, ◌<◌, ◌≤◌}
use Rattle.std.proofs.Math.Path.{sym, ap}
use Rattle.std.proofs.Common.{◌∙◌, arith}
use mathlib.Core.List.{List, [], map}
use Rattle.std.proofs.Math.Decide.{dec_lt}
use Rattle.std.proofs.Math.ListN.{length, get_or, length-map}
use Rattle.std.proofs.Math.Seq.{ext_get_or}
use Rattle.calls.specs.Answers.{Accepted, TurnedBack}
use Rattle.calls.proofs.CallLaws.{Own}
use Rattle.calls.specs.Sequences.{At, Run, accepted}
use Rattle.calls.proofs.SequenceLaws.{At_find, At_map, is_accepted}
use Rattle.pair_spec.specs.Calls.{Encoding, encode, Encodings, Receiving, receive, Receivings}
use Rattle.pair_spec.proofs.CallLaws.{EncodeFits, encode_accepted, encode_accepts, ReceiveFits, receive_accepts}
use Rattle.pair_spec.specs.Front.{encoder_of, next_pair, fresh_history}
use Rattle.pair_spec.proofs.FrontLaws.{Shows, shows_fresh}
use Rattle.pair_spec.proofs.StateLaws.{encode_shows, encodings_numbered, refused_receiving, receive_shows}
use Rattle.cells_spec.specs.Modulation.{Modulation, pairs_in}
use Rattle.line_spec.specs.Sides.{Side, encoder}
use Rattle.line_spec.proofs.LineLaws.{encoder_lt, encoder_small}
use Rattle.line_spec.specs.Outward.{Outward}
use Rattle.line_spec.specs.Inward.{ReceivedLine, received_pair}
use Rattle.line_spec.proofs.InwardLaws.{length_received}
use Rattle.line_spec.specs.CallLists.{state_after}
use Rattle.line_spec.proofs.CallListLaws.{length_one_by_one, made_at, one_by_one_run, one_by_one_accepted}
use Rattle.line_spec.specs.Runs.{Given, encoding_of, encodings, LentBack, receiving_of, receivings, empty_receiving}

-- A history that shows encoder e and pair P is not stray to a call that names them.
own_shown : (e : Side) (P : ℕ) (s : List ℕ) → Shows (encoder e) P s → Own (encoder_of s) (next_pair s) (encoder e) P
own_shown e P s r = record { encoder = r.encoder; pair = r.pair; known = omega (arith, encoder_lt e) }

-- ---- encoding

-- A receiving call that is lent nothing is refused.
pub empty_receiving_refused : TurnedBack (receive empty_receiving).answer
empty_receiving_refused = refused_receiving empty_receiving (λ e. omega arith)

module _ (p : Modulation) (g : Given p) (e : Side) where
  fits : (P : ℕ) (s : List ℕ) → P < pairs_in p g.superframes → Shows (encoder e) P s → EncodeFits (encoding_of p g e P s)
  fits P s l r =
      record {
        payload = g.long e P l;
        coded = g.coded_long e P;
        history = r.long;
        own = own_shown e P s r;
        pair = λ q. omega (arith, g.within, q);
      }

  accepts : (P : ℕ) (s : List ℕ) → P < pairs_in p g.superframes → Shows (encoder e) P s → Accepted (encode (encoding_of p g e P s)).answer
  accepts P s l r = encode_accepts (encoding_of p g e P s) (fits P s l r)

  leaves : (P : ℕ) (s : List ℕ) → P < pairs_in p g.superframes → Shows (encoder e) P s → Shows (encoder e) (suc P) (Encodings.left (encoding_of p g e P s))
  leaves P s l r = encode_shows (encoding_of p g e P s) (accepts P s l r) (encoder e) P r

  pub encodings_run : Run Encodings (fresh_history (encoder e)) (encodings p g e) (state_after Encodings (encoding_of p g e) (pairs_in p g.superframes) 0 (fresh_history (encoder e)))
  unfolding encodings
  encodings_run =
      one_by_one_run Encodings (encoding_of p g e) (Shows (encoder e)) (pairs_in p g.superframes) accepts (λ P s. refl) leaves (pairs_in p g.superframes) 0 (fresh_history (encoder e)) (omega arith) (shows_fresh (encoder e) (encoder_small e))

  pub encodings_accepted : accepted Encodings (encodings p g e) ≡ encodings p g e
  unfolding encodings
  encodings_accepted =
      one_by_one_accepted Encodings (encoding_of p g e) (Shows (encoder e)) (pairs_in p g.superframes) accepts (λ P s. refl) leaves (pairs_in p g.superframes) 0 (fresh_history (encoder e)) (omega arith) (shows_fresh (encoder e) (encoder_small e))

  pub length_encodings : length (encodings p g e) ≡ pairs_in p g.superframes
  unfolding encodings
  length_encodings = length_one_by_one Encodings (encoding_of p g e) (pairs_in p g.superframes) 0 (fresh_history (encoder e))

  -- Their payloads are those given.
  pub encodings_payloads : map (λ (c : Encoding). c.payload) (encodings p g e) ≡ g.payloads e
  unfolding encodings
  encodings_payloads =
      ext_get_or [] (map (λ (c : Encoding). c.payload) (encodings p g e)) (g.payloads e) (long ∙ sym (g.many e))
      (λ P l.
      let f = At_find (encodings p g e) P (omega (arith, long, length_encodings)) in
      let m = made_at Encodings (encoding_of p g e) (pairs_in p g.superframes) 0 (fresh_history (encoder e)) P f.0 f.1 in
      At_map (λ (c : Encoding). c.payload) [] f.1 ∙ ap (λ (c : Encoding). c.payload) m.1 ∙ ap (λ k. get_or (g.payloads e) k []) (omega arith))
    where
      long : length (map (λ (c : Encoding). c.payload) (encodings p g e)) ≡ pairs_in p g.superframes
      long = length-map (encodings p g e) (λ (c : Encoding). c.payload) ∙ length_encodings

-- ---- receiving

-- The pair numbers of what goes out are below 4,294,967,295.
pub pairs_within : (p : Modulation) (o : Outward p) (e : Side) → pairs_in p o.superframes ≤ 4294967295
pairs_within p o e = go (dec_lt 4294967295 (pairs_in p o.superframes))
  where
    go : Dec (4294967295 < pairs_in p o.superframes) → pairs_in p o.superframes ≤ 4294967295
    go (yes l) =
        let f = At_find (accepted Encodings (o.calls e)) 4294967295 (omega (arith, o.filled e)) in
        let number = (encodings_numbered (encoder e) (encoder_small e) (o.calls e) (o.runs e) 4294967295 f.0 f.1).1 in
        absurd ((encode_accepted f.0 (is_accepted Encodings (o.calls e) f.1)).0.pair number)
    go (no l) = omega arith

module _ (p : Modulation) (n : ℕ) (h : ReceivedLine p n) (room : LentBack) (small : pairs_in p n ≤ 4294967295) (e : Side) where
  fits_back : (P : ℕ) (s : List ℕ) → P < pairs_in p n → Shows (encoder e) P s → ReceiveFits (receiving_of p n h room e P s)
  fits_back P s l r =
      record {
        coded = length_received p n h e P;
        payload = room.payload_long e P;
        marks = room.marks_long e P;
        history = r.long;
        own = own_shown e P s r;
        pair = λ q. omega (arith, small, q);
      }

  accepts_back : (P : ℕ) (s : List ℕ) → P < pairs_in p n → Shows (encoder e) P s → Accepted (receive (receiving_of p n h room e P s)).answer
  accepts_back P s l r = receive_accepts (receiving_of p n h room e P s) (fits_back P s l r)

  leaves_back : (P : ℕ) (s : List ℕ) → P < pairs_in p n → Shows (encoder e) P s → Shows (encoder e) (suc P) (Receivings.left (receiving_of p n h room e P s))
  leaves_back P s l r = receive_shows (receiving_of p n h room e P s) (accepts_back P s l r) (encoder e) P r

  module _ (m : ℕ) (lm : m ≤ pairs_in p n) where
    pub receivings_run : Run Receivings (fresh_history (encoder e)) (receivings p n h room e m) (state_after Receivings (receiving_of p n h room e) m 0 (fresh_history (encoder e)))
    unfolding receivings
    receivings_run = one_by_one_run Receivings (receiving_of p n h room e) (Shows (encoder e)) (pairs_in p n) accepts_back (λ P s. refl) leaves_back m 0 (fresh_history (encoder e)) (omega arith) (shows_fresh (encoder e) (encoder_small e))

    pub receivings_accepted : accepted Receivings (receivings p n h room e m) ≡ receivings p n h room e m
    unfolding receivings
    receivings_accepted =
        one_by_one_accepted Receivings (receiving_of p n h room e) (Shows (encoder e)) (pairs_in p n) accepts_back (λ P s. refl) leaves_back m 0 (fresh_history (encoder e)) (omega arith) (shows_fresh (encoder e) (encoder_small e))

    pub length_receivings : length (receivings p n h room e m) ≡ m
    unfolding receivings
    length_receivings = length_one_by_one Receivings (receiving_of p n h room e) m 0 (fresh_history (encoder e))

    pub receivings_order : (P : ℕ) (c : Receiving) → At (receivings p n h room e m) P c → c.coded ≡ received_pair p n h e P
    unfolding receivings
    receivings_order P c a =
        let made = made_at Receivings (receiving_of p n h room e) m 0 (fresh_history (encoder e)) P c a in
        ap (λ (d : Receiving). d.coded) made.1 ∙ ap (received_pair p n h e) (omega arith)
