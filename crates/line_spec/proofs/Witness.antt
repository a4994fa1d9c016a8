-- The premises of demand 3 can be met: there are runs of every size with any payloads and refused calls anywhere, receivers that take all
-- pairs of any line within the limit or only the first m, and over an unaltered line all payload comes back. (Lines with errors:
-- ErrorWitness.antt.)
-- Assumes nothing.
use Rattle.std.specs.Prelude.{◌≡◌, refl, List, [], map, ℕ, ◌+◌, ◌-◌, ◌*◌, ◌/◌, ◌%◌, ◌<◌, ◌≤◌, length, get_or}
use Rattle.std.proofs.Common.{sym, ap, ap₂, ◌∙◌, subst, arith}
use Rattle.bits.specs.Bits.{bit}
use Rattle.bits.proofs.BitLaws.{bits_equal}
use Rattle.calls.specs.Answers.{Accepted, TurnedBack}
use Rattle.calls.specs.Sequences.{At, accepted}
use Rattle.calls.proofs.SequenceLaws.{At_lt, At_find, At_map, is_accepted}
use Rattle.pair_spec.specs.Rows.{word_of, payload_index}
use Rattle.pair_spec.proofs.RowLaws.{all_checked}
use Rattle.pair_spec.specs.Pairs.{own_index}
use Rattle.pair_spec.proofs.PairLaws.{own_word, own_place, own_from}
use Rattle.pair_spec.proofs.EncodingLaws.{payload_bit_own}
use Rattle.pair_spec.proofs.SentLaws.{made_bits, sent_exists}
use Rattle.pair_spec.specs.Front.{fresh_history}
use Rattle.pair_spec.specs.Calls.{Encoding, encode, Encodings, Receiving, receive, Receivings, payloads}
use Rattle.pair_spec.proofs.CallLaws.{encode_accepted, encode_separate, receive_separate}
use Rattle.pair_spec.proofs.StateLaws.{receive_payload_length, payload_bytes}
use Rattle.pair_spec.specs.Promise.{wrong_bits, Limit, mark_of, NotLost}
use Rattle.pair_spec.proofs.PromiseLaws.{mark_exact}
use Rattle.cells_spec.specs.Modulation.{Modulation, pairs_in, rows_in}
use Rattle.cells_spec.specs.Cells.{overhead_rule, Legal}
use Rattle.line_spec.specs.Sides.{Side, encoder}
use Rattle.line_spec.proofs.LineLaws.{encoder_small}
use Rattle.line_spec.specs.Line.{line_bit}
use Rattle.line_spec.specs.Outward.{Outward, frames}
use Rattle.line_spec.specs.Inward.{LentIn, ReceivedLine, Inward}
use Rattle.line_spec.proofs.OutwardLaws.{goes, frames_many, frames_long, frames_legal}
use Rattle.line_spec.proofs.InwardLaws.{length_payloads, takes, enough, comes}
use Rattle.line_spec.specs.CallLists.{Among, with_refused, state_after}
use Rattle.line_spec.proofs.CallListLaws.{among_run, among_accepted, among_with_refused, with_refused_accepted}
use Rattle.line_spec.proofs.RunLaws.{empty_receiving_refused, encodings_run, encodings_accepted, length_encodings, encodings_payloads}
use Rattle.line_spec.proofs.RunLaws.{pairs_within}
use Rattle.line_spec.proofs.RunLaws.{receivings_run, receivings_accepted, length_receivings, receivings_order}
use Rattle.line_spec.specs.Runs.{Given, encoding_of, encodings, LentBack, receiving_of, receivings, AllBack, empty_receiving}
use Rattle.line_spec.proofs.WrongLaws.{same_words, none_wrong}

-- ---- what goes out

-- For all payloads, and whatever refused calls stand before, between and after, there is a run of what goes out.
pub goes_out : (p : Modulation) (g : Given p) (calls : Side → List Encoding) → ((e : Side) → Among Encodings (encodings p g e) (calls e))
    → (o : Outward p) × (o.superframes ≡ g.superframes) × (o.calls ≡ calls) × ((e : Side) → payloads (o.calls e) ≡ g.payloads e)
unfolding payloads
goes_out p g calls among = (
  record {
    superframes = g.superframes;
    calls = calls;
    last = λ e. state_after Encodings (encoding_of p g e) (pairs_in p g.superframes) 0 (fresh_history (encoder e));
    runs = λ e. among_run Encodings encode_separate (among e) (encodings_run p g e);
    filled = λ e. ap length (taken e) ∙ length_encodings p g e;
    overhead = g.overhead;
    overhead_long = g.overhead_long;
    overhead_legal = g.overhead_legal;
    lent = g.lent;
    sent = λ e. made_bits (payloads (calls e));
    formulas = λ e. sent_exists (payloads (calls e));
  },
  refl,
  refl,
  λ e. ap (map (λ (c : Encoding). c.payload)) (taken e) ∙ encodings_payloads p g e,
)
  where
    taken : (e : Side) → accepted Encodings (calls e) ≡ encodings p g e
    taken e = among_accepted Encodings (among e) ∙ encodings_accepted p g e

-- ---- what comes in

-- For all that goes out, for every m up to the pairs of the line, for every line within the limit in the first m pairs, and whatever
-- refused calls stand before, between and after, there are receiving calls that take just the first m pairs; m may be another for each
-- encoder.
pub comes_in : (p : Modulation) (o : Outward p) (h : ReceivedLine p o.superframes) (m : Side → ℕ)
    → ((e : Side) → m e ≤ pairs_in p o.superframes)
    → ((e : Side) → Limit (o.sent e) (line_bit p h.frames e) (m e)) → (room : LentBack)
    → (calls : Side → List Receiving) → ((e : Side) → Among Receivings (receivings p o.superframes h room e (m e)) (calls e))
    → (i : Inward p o) × (i.received ≡ h) × (i.calls ≡ calls) × ((e : Side) → length (accepted Receivings (i.calls e)) ≡ m e)
comes_in p o h m most limit room calls among = (
  record {
    received = h;
    calls = calls;
    last = λ e. state_after Receivings (receiving_of p o.superframes h room e) (m e) 0 (fresh_history (encoder e));
    runs = λ e. among_run Receivings receive_separate (among e) (receivings_run p o.superframes h room (pairs_within p o e) e (m e) (most e));
    some = λ e. omega (arith, many e, most e);
    in_order = λ e P c a. receivings_order p o.superframes h room (pairs_within p o e) e (m e) (most e) P c (subst (λ l. At l P c) (taken e) a);
    limit = λ e. subst (λ k. Limit (o.sent e) (line_bit p h.frames e) k) (sym (many e)) (limit e);
  },
  refl,
  refl,
  many,
)
  where
    taken : (e : Side) → accepted Receivings (calls e) ≡ receivings p o.superframes h room e (m e)
    taken e = among_accepted Receivings (among e) ∙ receivings_accepted p o.superframes h room (pairs_within p o e) e (m e) (most e)

    many : (e : Side) → length (accepted Receivings (calls e)) ≡ m e
    many e = ap length (taken e) ∙ length_receivings p o.superframes h room (pairs_within p o e) e (m e) (most e)

-- And with any refused call before each of them and after the last.
pub comes_in_with_refused : (p : Modulation) (o : Outward p) (h : ReceivedLine p o.superframes) (m : Side → ℕ)
    → ((e : Side) → m e ≤ pairs_in p o.superframes)
    → ((e : Side) → Limit (o.sent e) (line_bit p h.frames e) (m e)) → LentBack → (y : Receiving) → TurnedBack (receive y).answer
    → (i : Inward p o) × (i.received ≡ h) × ((e : Side) → i.calls e ≡ with_refused Receivings y (accepted Receivings (i.calls e)))
    × ((e : Side) → length (accepted Receivings (i.calls e)) ≡ m e)
comes_in_with_refused p o h m most limit room y bad =
    let back = comes_in p o h m most limit room (λ e. with_refused Receivings y (calls e)) (λ e. among_with_refused Receivings y bad (calls e)) in (
      back.0,
      back.1,
      (λ e. with_refused_accepted Receivings y bad (calls e) (back.0.calls e)
          (receivings_accepted p o.superframes h room (pairs_within p o e) e (m e) (most e)) (ap (λ (c : Side → List Receiving). c e) back.2)),
      back.3,
    )
  where
    calls : Side → List Receiving
    calls e = receivings p o.superframes h room e (m e)

-- ---- a line that alters nothing

-- The frames of what goes out are a line.
pub unaltered : (p : Modulation) (o : Outward p) (overhead : List ℕ) → length overhead ≡ 12288 → Legal overhead_rule overhead → LentIn
    → (h : ReceivedLine p o.superframes) × (h.frames ≡ frames p o)
unaltered p o overhead long legal lent = (
  record {
    frames = frames p o;
    many = frames_many p o;
    long = frames_long p o;
    legal = frames_legal p o;
    overhead = overhead;
    overhead_long = long;
    overhead_legal = legal;
    lent = lent;
  },
  refl,
)

module _ (p : Modulation) (o : Outward p) (h : ReceivedLine p o.superframes) (same : h.frames ≡ frames p o) where
  pub unaltered_bits : (e : Side) (R C r c : ℕ) → R < rows_in p o.superframes → C < 8 → r < 16 → c < 16
      → line_bit p h.frames e R C r c ≡ o.sent e R C r c
  unaltered_bits e R C r c lR lC lr lc = ap (λ (f : List (List ℕ)). line_bit p f e R C r c) same ∙ (goes p o).holds e R C r c lR lC lr lc

  pub unaltered_none_wrong : (e : Side) (R r : ℕ) → R < rows_in p o.superframes → r < 16
      → wrong_bits (o.sent e) (line_bit p h.frames e) R r ≡ 0
  unaltered_none_wrong e = none_wrong (o.sent e) (line_bit p h.frames e) (rows_in p o.superframes) (unaltered_bits e)

  -- It is within the limit.
  pub unaltered_limit : (e : Side) (m : ℕ) → m ≤ pairs_in p o.superframes → Limit (o.sent e) (line_bit p h.frames e) m
  unaltered_limit e m l = record { three = λ R r lR lr _. omega (arith, unaltered_none_wrong e R r (omega arith) lr) }

-- So for every m up to the pairs of the line there are receivers that take just the first m.
pub first_pairs : (p : Modulation) (o : Outward p) (m : Side → ℕ) → ((e : Side) → m e ≤ pairs_in p o.superframes) → LentIn → LentBack
    → (i : Inward p o) × ((e : Side) → length (accepted Receivings (i.calls e)) ≡ m e)
first_pairs p o m most lent room =
    let h = unaltered p o o.overhead o.overhead_long o.overhead_legal lent in
    let back = comes_in_with_refused p o h.0 m most (λ e. unaltered_limit p o h.0 h.1 e (m e) (most e)) room empty_receiving empty_receiving_refused in
    (back.0, back.3)

module _ (p : Modulation) (o : Outward p) (i : Inward p o) where
  -- Where the front half of a word was delivered right, its mark is the number of its wrong bits.
  pub exact : (e : Side) (R r : ℕ) (c : Receiving) → r < 16 → At (accepted Receivings (i.calls e)) (R / 2) c
      → ((k : ℕ) → k < 128 → word_of (line_bit p i.received.frames e) R r k ≡ word_of (o.sent e) R r k)
      → mark_of (receive c) R r ≡ wrong_bits (o.sent e) (line_bit p i.received.frames e) R r
  exact e =
      mark_exact (o.sent e) (line_bit p i.received.frames e) (payloads (o.calls e)) (o.formulas e) (i.calls e) (encoder_small e) (i.runs e) (enough p o i e) (takes p o i e) (i.limit e)

  pub taken_row : (e : Side) (R : ℕ) (c : Receiving) → At (accepted Receivings (i.calls e)) (R / 2) c → R < rows_in p o.superframes
  taken_row e R c a = omega (arith, At_lt a, i.some e)

  -- All comes back over it.
  pub all_back : i.received.frames ≡ frames p o → AllBack p o i
  unfolding own_index
  all_back same = record { marks = marks_back; payload = payload_back }
    where
      sound : (e : Side) (R r : ℕ) (c : Receiving) → r < 16 → At (accepted Receivings (i.calls e)) (R / 2) c
          → wrong_bits (o.sent e) (line_bit p i.received.frames e) R r ≡ 0
      sound e R r c lr a = unaltered_none_wrong p o i.received same e R r (taken_row e R c a) lr

      kept : (e : Side) (R r : ℕ) (c : Receiving) → r < 16 → At (accepted Receivings (i.calls e)) (R / 2) c → NotLost (receive c) R r
      kept e R r c lr a = ((comes p o i).words e (R / 2) c a R r refl lr).two_not_lost (all_checked R) (omega (arith, sound e R r c lr a))

      marks_back : (e : Side) (P : ℕ) (c : Receiving) → At (accepted Receivings (i.calls e)) P c → (w : ℕ) → w < 32
          → get_or (receive c).written.marks w 0 ≡ 0
      marks_back e P c a w lw =
          let R = 2 * P + w / 16 in
          let b : At (accepted Receivings (i.calls e)) ((2 * P + w / 16) / 2) c = subst (λ Q. At (accepted Receivings (i.calls e)) Q c) (omega arith) a in
          ap (λ k. get_or (receive c).written.marks k 0) (word w P lw)
          ∙ exact e R (w % 16) c (omega arith) b
          (λ k l. same_words (o.sent e) (line_bit p i.received.frames e) (rows_in p o.superframes) (unaltered_bits p o i.received same e) R (w % 16) k
          (taken_row e R c b) (omega arith) (omega arith))
          ∙ sound e R (w % 16) c (omega arith) b
        where
          word : (w P : ℕ) → w < 32 → w ≡ 16 * ((2 * P + w / 16) % 2) + w % 16
          word w P l = let m : (2 * P + w / 16) % 2 ≡ w / 16 = omega arith in rw m (omega arith)

      payload_back : (e : Side) (P : ℕ) (c : Receiving) → At (accepted Receivings (i.calls e)) P c → (j : ℕ) → j < 3552
          → bit (receive c).written.payload j ≡ bit (get_or (payloads (o.calls e)) P []) j
      payload_back e P c a j lj =
          let own = own_from j lj in
          let w = own_word j in
          let k = own_place j in
          at w k own.word own.place own.is
        where
          at : (w k : ℕ) → w < 32 → k < 111 → payload_index (w / 16) (w % 16) k ≡ j
              → bit (receive c).written.payload j ≡ bit (get_or (payloads (o.calls e)) P []) j
          at w k lw lk is =
              let R = 2 * P + w / 16 in
              let pair : (2 * P + w / 16) / 2 ≡ P = omega arith in
              let row : (2 * P + w / 16) % 2 ≡ w / 16 = omega arith in
              let place : 128 + k - 128 ≡ k = omega arith in
              let b : At (accepted Receivings (i.calls e)) ((2 * P + w / 16) / 2) c = subst (λ Q. At (accepted Receivings (i.calls e)) Q c) (sym pair) a in
              let lr : w % 16 < 16 = omega arith in
              ap (bit (receive c).written.payload) (sym is ∙ ap₂ (λ s m. payload_index s (w % 16) m) (sym row) (sym place))
              ∙ (((comes p o i).words e ((2 * P + w / 16) / 2) c b R (w % 16) refl lr).whole (kept e R (w % 16) c lr b) (128 + k) (omega arith) (omega arith)).paid (omega arith)
              ∙ (o.formulas e).payload.placed R (w % 16) k (omega (arith, taken_row e R c b, rows e)) lr lk
              ∙ payload_bit_own (payloads (o.calls e)) R (w % 16) k lr lk
              ∙ ap₂ (λ Q s. bit (get_or (payloads (o.calls e)) Q []) (payload_index s (w % 16) k)) pair row
              ∙ ap (bit (get_or (payloads (o.calls e)) P [])) is
            where
              rows : (e : Side) → length (payloads (o.calls e)) ≡ pairs_in p o.superframes
              rows e = length_payloads (o.calls e) ∙ o.filled e

-- Where the payload is bytes, it comes back whole.
pub payload_whole : (p : Modulation) (o : Outward p) (i : Inward p o) → AllBack p o i → (e : Side) (P : ℕ) (c : Receiving)
    → At (accepted Receivings (i.calls e)) P c
    → ((j : ℕ) → get_or (get_or (payloads (o.calls e)) P []) j 0 < 256) → (receive c).written.payload ≡ get_or (payloads (o.calls e)) P []
unfolding payloads
payload_whole p o i back e P c a bytes =
    bits_equal (receive c).written.payload (get_or (payloads (o.calls e)) P []) (long ∙ sym given_long) (payload_bytes c ok) bytes
    (λ j l. back.payload e P c a j (omega (arith, long)))
  where
    ok : Accepted (receive c).answer
    ok = is_accepted Receivings (i.calls e) a

    long : length (receive c).written.payload ≡ 444
    long = receive_payload_length c ok

    f : (d : Encoding) × At (accepted Encodings (o.calls e)) P d
    f = At_find (accepted Encodings (o.calls e)) P (omega (arith, At_lt a, i.some e, o.filled e))

    given_long : length (get_or (payloads (o.calls e)) P []) ≡ 444
    given_long =
        ap length (At_map (λ (d : Encoding). d.payload) [] f.1) ∙ (encode_accepted f.0 (is_accepted Encodings (o.calls e) f.1)).0.payload

-- So for all payloads there are runs, there and back, that take all pairs and bring all payload back, with any refused call before, between
-- and after.
pub there_and_back : (p : Modulation) (g : Given p) → LentIn → LentBack → (x : Encoding) → TurnedBack (encode x).answer → (y : Receiving)
    → TurnedBack (receive y).answer
    → (o : Outward p) × (i : Inward p o) × ((e : Side) → o.calls e ≡ with_refused Encodings x (encodings p g e)) × ((e : Side) → payloads (o.calls e) ≡ g.payloads e)
    × ((e : Side) → length (accepted Receivings (i.calls e)) ≡ pairs_in p o.superframes) × AllBack p o i
there_and_back p g lent room x bad y worse =
    let out = goes_out p g (λ e. with_refused Encodings x (encodings p g e)) (λ e. among_with_refused Encodings x bad (encodings p g e)) in
    let o = out.0 in
    let h = unaltered p o o.overhead o.overhead_long o.overhead_legal lent in
    let all : (e : Side) → pairs_in p o.superframes ≤ pairs_in p o.superframes = λ e. omega arith in
    let back =
    comes_in_with_refused p o h.0 (λ e. pairs_in p o.superframes) all (λ e. unaltered_limit p o h.0 h.1 e (pairs_in p o.superframes) (all e)) room y worse in (
      o,
      back.0,
      (λ e. ap (λ (c : Side → List Encoding). c e) out.2),
      out.3,
      back.3,
      all_back p o back.0 (ap (λ (k : ReceivedLine p o.superframes). k.frames) back.1 ∙ h.1),
    )
