-- Demand 3, entire: what is claimed of the four lists together. 01, "Whole runs".
-- Assumes nothing.
use Rattle.std.specs.Prelude.{◌≡◌, ℕ, ◌*◌, ◌/◌, ◌<◌}
use Rattle.calls.specs.Answers.{Accepted, TurnedBack}
use Rattle.calls.specs.Sequences.{At, Run, accepted, Numbered}
use Rattle.pair_spec.specs.History.{depth}
use Rattle.pair_spec.specs.Front.{fresh_history}
use Rattle.pair_spec.specs.Calls.{encode_buffers, receive_buffers, Encoding, encode, Encodings, Receiving, receive, Receivings}
use Rattle.pair_spec.specs.Promise.{Promise}
use Rattle.cells_spec.specs.Modulation.{Modulation, buffers_in, rows_in}
use Rattle.line_spec.specs.Sides.{Side, encoder}
use Rattle.line_spec.specs.Line.{line_bit}
use Rattle.line_spec.specs.Outward.{Outward, interleaving, mapping, framing, frames}
use Rattle.line_spec.specs.Inward.{Inward, unframing, demapping, parting}

-- What goes out, by itself.
pub record Goes (p : Modulation) (o : Outward p) : Type 0 where
  -- "each is made for every buffer or sub-frame and accepted"
  pub interleaved : (b : ℕ) → b < buffers_in p o.superframes → Accepted (interleaving p o b).answer
  pub mapped : (b : ℕ) → b < buffers_in p o.superframes → Accepted (mapping p o b).answer
  pub framed : (f : ℕ) → f < 48 * o.superframes → Accepted (framing p o f).answer
  -- "The frames, read backwards, hold every sent bit of both encoders in its place"
  pub holds : (e : Side) (R C r c : ℕ) → R < rows_in p o.superframes → C < 8 → r < 16 → c < 16
      → line_bit p (frames p o) e R C r c ≡ o.sent e R C r c
  -- "From a fresh history, passed on from answer to call, the accepted calls are that encoder's pairs 0, 1, 2 and on." (02, E2)
  pub numbered : (e : Side) → Numbered Encodings (λ c. c.encoder) (λ c. c.pair) (encoder e) (o.calls e)
  -- "Refused calls, whatever they are lent, may stand anywhere in a list and leave both as they were": history and pair number, which is in
  -- its front, go on as if only the accepted calls had been made; and the buffers that a refused call may write are as they were lent.
  pub states : (e : Side) → Run Encodings (fresh_history (encoder e)) (accepted Encodings (o.calls e)) (o.last e)
  pub refused : (e : Side) (i : ℕ) (c : Encoding) → At (o.calls e) i c → TurnedBack (encode c).answer
      → (encode c).written ≡ encode_buffers c.coded c.history

-- What comes in.
pub record Comes (p : Modulation) (o : Outward p) (i : Inward p o) : Type 0 where
  pub unframed : (f : ℕ) → f < 48 * o.superframes → Accepted (unframing p o.superframes i.received f).answer
  pub demapped : (b : ℕ) → b < buffers_in p o.superframes → Accepted (demapping p o.superframes i.received b).answer
  pub parted : (b : ℕ) → b < buffers_in p o.superframes → Accepted (parting p o.superframes i.received b).answer
  -- Of each word (R, r) of each accepted receiving call, that on pair P, the code layer's promise, with the received bits off the line.
  pub words : (e : Side) (P : ℕ) (c : Receiving) → At (accepted Receivings (i.calls e)) P c → (R r : ℕ) → R / 2 ≡ P → r < 16
      → Promise depth (o.sent e) (line_bit p i.received.frames e) c (receive c) R r
  pub numbered : (e : Side) → Numbered Receivings (λ c. c.encoder) (λ c. c.pair) (encoder e) (i.calls e)
  pub states : (e : Side) → Run Receivings (fresh_history (encoder e)) (accepted Receivings (i.calls e)) (i.last e)
  pub refused : (e : Side) (j : ℕ) (c : Receiving) → At (i.calls e) j c → TurnedBack (receive c).answer
      → (receive c).written ≡ receive_buffers c.payload c.marks c.history

-- "This is a single claim about the four lists together, and not one for each call."
pub record Demand3 (p : Modulation) (o : Outward p) (i : Inward p o) : Type 0 where
  pub goes : Goes p o
  pub comes : Comes p o i
