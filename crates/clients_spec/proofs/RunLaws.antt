-- The exported functions and demand 3 meet: runs of exported calls are demand 3's runs, and what it says of the library's buffers holds of
-- those that the exported calls left.
-- Assumes nothing.
use Rattle.std.specs.Prelude.{◌≡◌, refl, List, [], ◌∷◌, map, ℕ, ◌≤◌, length}
use Rattle.std.proofs.Common.{sym, ap₂, subst, ◌∙◌}
use Rattle.std.proofs.Math.Path.{ap}
use Rattle.std.proofs.lemmas.List.{length-map}
use Rattle.calls.specs.Sequences.{At, Part, accepted}
use Rattle.calls.proofs.SequenceLaws.{mapped_at, Mirrors, mirror_run, mirror_accepted}
use Rattle.pair_spec.proofs.SentLaws.{made_bits, sent_exists}
use Rattle.pair_spec.specs.Calls.{EncodeBuffers, ReceiveBuffers, Encoding, encode, Encodings, Receiving, receive, Receivings}
use Rattle.pair_spec.specs.Calls.{payloads}
use Rattle.pair_spec.specs.Rows.{RowBits}
use Rattle.pair_spec.specs.Promise.{Limit}
use Rattle.cells_spec.specs.Modulation.{Modulation, pairs_in}
use Rattle.line_spec.specs.Sides.{Side}
use Rattle.line_spec.specs.Line.{line_bit}
use Rattle.line_spec.specs.Outward.{Outward, coded_pairs}
use Rattle.line_spec.specs.Inward.{Inward}
use Rattle.capi.specs.declared.Outcome.{Outcome}
use Rattle.capi.specs.Outcomes.{outcome_of}
use Rattle.capi.specs.Exports.{Exported, in_numbers}
use Rattle.clients_spec.specs.Runs.{EncodeCall, EncodeCalls, ReceiveCall, ReceiveCalls, Sends, Receives}

-- ---- lists

map_map : {A B C : Type 0} (f : A → B) (g : B → C) (h : A → C) → ((x : A) → g (f x) ≡ h x) → (l : List A) → map g (map f l) ≡ map h l
map_map f g h e [] = refl
map_map f g h e (x ∷ xs) = ap₂ ◌∷◌ (e x) (map_map f g h e xs)

-- ---- what a call that meets its contract gives

module _ (c : EncodeCall) where
  pub encode_outcome : c.outcome ≡ outcome_of (encode c.lent).answer c.lent.pair
  unfolding in_numbers encode
  encode_outcome = ap (λ (x : Exported EncodeBuffers). x.outcome) c.meets

  pub exported_coded : c.coded ≡ (encode c.lent).written.coded
  unfolding in_numbers encode
  exported_coded = ap (λ (x : Exported EncodeBuffers). x.written.coded) c.meets

  pub exported_encode_history : c.history ≡ (encode c.lent).written.history
  unfolding in_numbers encode
  exported_encode_history = ap (λ (x : Exported EncodeBuffers). x.written.history) c.meets

module _ (c : ReceiveCall) where
  pub receive_outcome : c.outcome ≡ outcome_of (receive c.lent).answer c.lent.pair
  unfolding in_numbers receive
  receive_outcome = ap (λ (x : Exported ReceiveBuffers). x.outcome) c.meets

  pub exported_payload : c.payload ≡ (receive c.lent).written.payload
  unfolding in_numbers receive
  exported_payload = ap (λ (x : Exported ReceiveBuffers). x.written.payload) c.meets

  pub exported_marks : c.marks ≡ (receive c.lent).written.marks
  unfolding in_numbers receive
  exported_marks = ap (λ (x : Exported ReceiveBuffers). x.written.marks) c.meets

  pub exported_receive_history : c.history ≡ (receive c.lent).written.history
  unfolding in_numbers receive
  exported_receive_history = ap (λ (x : Exported ReceiveBuffers). x.written.history) c.meets

-- Exported calls are the library's.
abbrev pub lent_encoding : EncodeCall → Encoding
lent_encoding c = c.lent

abbrev pub lent_receiving : ReceiveCall → Receiving
lent_receiving c = c.lent

pub encode_mirrors : Mirrors EncodeCalls Encodings lent_encoding (λ s. s)
encode_mirrors =
    record {
      numbers = λ c. sym (ap (λ (o : Outcome). o.refusal) (encode_outcome c));
      lent = λ c. refl;
      left = λ c. sym (exported_encode_history c);
      becomes = λ c s t.
          subst (λ (l : List (List ℕ)). Part (c.lent.payload ∷ c.lent.coded ∷ c.lent.history ∷ []) l s t)
          (ap₂ (λ x y. c.lent.payload ∷ x ∷ y ∷ []) (exported_coded c) (exported_encode_history c));
    }

pub receive_mirrors : Mirrors ReceiveCalls Receivings lent_receiving (λ s. s)
receive_mirrors =
    record {
      numbers = λ c. sym (ap (λ (o : Outcome). o.refusal) (receive_outcome c));
      lent = λ c. refl;
      left = λ c. sym (exported_receive_history c);
      becomes = λ c s t.
          subst (λ (l : List (List ℕ)). Part (c.lent.coded ∷ c.lent.payload ∷ c.lent.marks ∷ c.lent.history ∷ []) (c.lent.coded ∷ l) s t)
          (ap₂ (λ x (l : List (List ℕ)). x ∷ l) (exported_payload c) (ap₂ (λ x y. x ∷ y ∷ []) (exported_marks c) (exported_receive_history c)));
    }

-- ---- demand 3 of the exported functions

-- What goes out, with the bits of 01's formulas.
unfoldable pub outward : (p : Modulation) → Sends p → Outward p
outward p s =
    record {
      superframes = s.superframes;
      calls = λ e. map lent_encoding (s.calls e);
      last = s.last;
      runs = λ e. mirror_run encode_mirrors (s.runs e);
      filled = λ e. ap length (mirror_accepted encode_mirrors (s.calls e)) ∙ length-map (accepted EncodeCalls (s.calls e)) lent_encoding ∙ s.filled e;
      overhead = s.overhead;
      overhead_long = s.overhead_long;
      overhead_legal = s.overhead_legal;
      lent = s.lent;
      sent = λ e. made_bits (payloads (map lent_encoding (s.calls e)));
      formulas = λ e. sent_exists (payloads (map lent_encoding (s.calls e)));
    }

-- The coded pairs that go into the line are those that the exported calls left.
pub coded_as_left : (p : Modulation) (s : Sends p) (e : Side)
    → coded_pairs ((outward p s).calls e) ≡ map (λ (c : EncodeCall). c.coded) (accepted EncodeCalls (s.calls e))
unfolding coded_pairs outward
coded_as_left p s e =
    ap (map (λ (c : Encoding). (encode c).written.coded)) (mirror_accepted encode_mirrors (s.calls e))
    ∙ map_map lent_encoding (λ (c : Encoding). (encode c).written.coded) (λ (c : EncodeCall). c.coded) (λ c. sym (exported_coded c)) (accepted EncodeCalls (s.calls e))

-- The bits that an encoder sent.
abbrev pub sent_bits : (p : Modulation) → Sends p → Side → RowBits
sent_bits p s e = (outward p s).sent e

-- What comes in.
unfoldable pub inward : (p : Modulation) (s : Sends p) → Receives p s.superframes (sent_bits p s) → Inward p (outward p s)
unfolding outward
inward p s t =
    record {
      received = t.received;
      calls = λ e. map lent_receiving (t.calls e);
      last = t.last;
      runs = λ e. mirror_run receive_mirrors (t.runs e);
      some = λ e. subst (λ n. n ≤ pairs_in p s.superframes) (sym (taken e)) (t.some e);
      in_order = λ e P c a.
          let r = mapped_at lent_receiving (accepted ReceiveCalls (t.calls e)) P c (subst (λ l. At l P c) (mirror_accepted receive_mirrors (t.calls e)) a) in
          ap (λ (d : Receiving). d.coded) (sym r.2) ∙ t.in_order e P r.0 r.1;
      limit = λ e. subst (Limit (sent_bits p s e) (line_bit p t.received.frames e)) (sym (taken e)) (t.limit e);
    }
  where
    taken : (e : Side) → length (accepted Receivings (map lent_receiving (t.calls e))) ≡ length (accepted ReceiveCalls (t.calls e))
    taken e = ap length (mirror_accepted receive_mirrors (t.calls e)) ∙ length-map (accepted ReceiveCalls (t.calls e)) lent_receiving
