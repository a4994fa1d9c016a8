-- The exported functions and demand 3 meet: what it says of the library's calls holds of the outcomes and buffers of the exported ones.
-- Assumes nothing.
use Rattle.std.specs.Prelude.{◌≡◌, List, map, ℕ, ◌*◌, ◌/◌, ◌<◌}
use Rattle.std.proofs.Common.{sym, ap, subst, ◌∙◌}
use Rattle.calls.specs.Answers.{Accepted}
use Rattle.calls.specs.Calls.{After}
use Rattle.calls.specs.Sequences.{At, accepted, Numbered}
use Rattle.calls.proofs.SequenceLaws.{at_mapped, mirror_accepted}
use Rattle.pair_spec.specs.History.{depth}
use Rattle.pair_spec.specs.Calls.{receive}
use Rattle.pair_spec.specs.Promise.{Promise}
use Rattle.interleaver_spec.specs.Calls.{PairBuffers}
use Rattle.cells_spec.specs.Modulation.{Modulation, buffers_in}
use Rattle.line_spec.specs.Sides.{Side, encoder}
use Rattle.line_spec.specs.Line.{line_bit}
use Rattle.line_spec.specs.Outward.{coded_pairs, interleaving, mapping, framing}
use Rattle.line_spec.specs.Inward.{unframing, demapping, parting}
use Rattle.line_spec.specs.Demand3.{Demand3}
use Rattle.line_spec.proofs.Theorem.{demand3}
use Rattle.capi.specs.declared.Outcome.{Outcome}
use Rattle.capi.specs.Exports.{Exported, exported, in_numbers}
use Rattle.clients_spec.specs.Runs.{EncodeCall, EncodeCalls, ReceiveCall, ReceiveCalls, Sends, Receives}
use Rattle.clients_spec.proofs.RunLaws.{lent_encoding, encode_mirrors, lent_receiving, receive_mirrors, exported_payload, exported_marks, exported_receive_history}
use Rattle.clients_spec.proofs.RunLaws.{coded_as_left, outward, sent_bits, inward}

-- ---- what is claimed

-- Word (R, r) of an accepted call of a receiver: the promise, about the buffers that the exported call left.
pub record WordAsPromised (p : Modulation) (s : Sends p) (t : Receives p s.superframes (sent_bits p s)) (e : Side) (c : ReceiveCall) (R r : ℕ) : Type 0 where
  pub promise : Promise depth (sent_bits p s e) (line_bit p t.received.frames e) c.lent (receive c.lent) R r
  pub payload : c.payload ≡ (receive c.lent).written.payload
  pub marks : c.marks ≡ (receive c.lent).written.marks
  pub history : c.history ≡ (receive c.lent).written.history

-- An exported call that gives o and leaves what it may write so, where x stands after the library's, is accepted, and leaves what that
-- leaves.
abbrev Leaves : {B : Type 0} → Outcome → B → After B → Type 0
Leaves o left x = exported o left ≡ in_numbers 0 x → (o.refusal ≡ 0) × (left ≡ x.written)

pub record Meets (p : Modulation) (s : Sends p) (t : Receives p s.superframes (sent_bits p s)) : Type 0 where
  pub demand3 : Demand3 p (outward p s) (inward p s t)
  -- The coded pairs that go into the line are those that the exported calls left.
  pub coded : (e : Side) → coded_pairs ((outward p s).calls e) ≡ map (λ (c : EncodeCall). c.coded) (accepted EncodeCalls (s.calls e))
  -- The calls of the line, for every buffer b and sub-frame f.
  pub interleaved : (b : ℕ) → b < buffers_in p s.superframes → (o : Outcome) (left : List ℕ)
      → Leaves o left (interleaving p (outward p s) b)
  pub mapped : (b : ℕ) → b < buffers_in p s.superframes → (o : Outcome) (left : List ℕ) → Leaves o left (mapping p (outward p s) b)
  pub framed : (f : ℕ) → f < 48 * s.superframes → (o : Outcome) (left : List ℕ) → Leaves o left (framing p (outward p s) f)
  pub unframed : (f : ℕ) → f < 48 * s.superframes → (o : Outcome) (left : List ℕ)
      → Leaves o left (unframing p s.superframes t.received f)
  pub demapped : (b : ℕ) → b < buffers_in p s.superframes → (o : Outcome) (left : List ℕ)
      → Leaves o left (demapping p s.superframes t.received b)
  pub parted : (b : ℕ) → b < buffers_in p s.superframes → (o : Outcome) (left : PairBuffers)
      → Leaves o left (parting p s.superframes t.received b)
  -- The accepted calls are their encoder's pairs 0, 1, 2 and on.
  pub encodes_numbered : (e : Side) → Numbered EncodeCalls (λ c. c.lent.encoder) (λ c. c.lent.pair) (encoder e) (s.calls e)
  pub receives_numbered : (e : Side) → Numbered ReceiveCalls (λ c. c.lent.encoder) (λ c. c.lent.pair) (encoder e) (t.calls e)
  -- Each word of each accepted receiving call.
  pub words : (e : Side) (P : ℕ) (c : ReceiveCall) → At (accepted ReceiveCalls (t.calls e)) P c → (R r : ℕ) → R / 2 ≡ P → r < 16
      → WordAsPromised p s t e c R r

-- ---- that it holds

seen : {B : Type 0} {o : Outcome} {left : B} (x : After B) → Accepted x.answer → Leaves o left x
unfolding in_numbers
seen {B} x ok e = (ap (λ (y : Exported B). y.outcome.refusal) e ∙ ok, ap (λ (y : Exported B). y.written) e)

pub meets : (p : Modulation) (s : Sends p) (t : Receives p s.superframes (sent_bits p s)) → Meets p s t
unfolding outward inward
meets p s t =
    record {
      demand3 = whole;
      coded = coded_as_left p s;
      interleaved = λ b l o left. seen (interleaving p (outward p s) b) (whole.goes.interleaved b l);
      mapped = λ b l o left. seen (mapping p (outward p s) b) (whole.goes.mapped b l);
      framed = λ f l o left. seen (framing p (outward p s) f) (whole.goes.framed f l);
      unframed = λ f l o left. seen (unframing p s.superframes t.received f) (whole.comes.unframed f l);
      demapped = λ b l o left. seen (demapping p s.superframes t.received b) (whole.comes.demapped b l);
      parted = λ b l o left. seen (parting p s.superframes t.received b) (whole.comes.parted b l);
      encodes_numbered = λ e P c a.
          whole.goes.numbered e P c.lent (subst (λ l. At l P c.lent) (sym (mirror_accepted encode_mirrors (s.calls e))) (at_mapped lent_encoding a));
      receives_numbered = λ e P c a.
          whole.comes.numbered e P c.lent (subst (λ l. At l P c.lent) (sym (mirror_accepted receive_mirrors (t.calls e))) (at_mapped lent_receiving a));
      words = λ e P c a R r is lr.
          record {
            promise =
                whole.comes.words e P c.lent (subst (λ l. At l P c.lent) (sym (mirror_accepted receive_mirrors (t.calls e))) (at_mapped lent_receiving a)) R r is
                lr;
            payload = exported_payload c;
            marks = exported_marks c;
            history = exported_receive_history c;
          };
    }
  where
    whole : Demand3 p (outward p s) (inward p s t)
    whole = demand3 p (outward p s) (inward p s t)
