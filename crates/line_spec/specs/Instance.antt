-- One run of demand 3 in either profile with nothing left open: a super-frame of zero payload, refused calls in between, and one word
-- lost.
-- Assumes nothing.
use Rattle.std.specs.Prelude.{◌≡◌, ℕ, ◌/◌, ◌<◌, length, replicate}
use Rattle.bits.specs.Lists.{tabulate}
use Rattle.calls.specs.Answers.{TurnedBack}
use Rattle.calls.specs.Sequences.{At, accepted}
use Rattle.pair_spec.specs.Calls.{encode, Encodings, Receiving, receive, Receivings, payloads}
use Rattle.pair_spec.specs.Promise.{wrong_bits, NotLost, Lost}
use Rattle.cells_spec.specs.Modulation.{Modulation, pairs_in}
use Rattle.line_spec.specs.Sides.{Side, side0}
use Rattle.line_spec.specs.Line.{line_bit}
use Rattle.line_spec.specs.Outward.{Outward}
use Rattle.line_spec.specs.Inward.{Inward}
use Rattle.line_spec.specs.Demand3.{Demand3}
use Rattle.line_spec.specs.CallLists.{with_refused}
use Rattle.line_spec.specs.Runs.{empty_encoding, empty_receiving}

pub record OneSuperFrame (p : Modulation) (o : Outward p) (i : Inward p o) : Type 0 where
  pub one : o.superframes ≡ 1
  -- The pairs of each encoder, 168 in 16-QAM and 84 in QPSK, payload zero, all of them received.
  pub sent : (e : Side) → length (accepted Encodings (o.calls e)) ≡ pairs_in p 1
  pub zero : (e : Side) → payloads (o.calls e) ≡ tabulate (pairs_in p 1) (λ P. replicate 444 0)
  pub taken : (e : Side) → length (accepted Receivings (i.calls e)) ≡ pairs_in p 1
  -- A refused call before each accepted one and after the last.
  pub refused : TurnedBack (encode empty_encoding).answer × TurnedBack (receive empty_receiving).answer
  pub between : (e : Side) → o.calls e ≡ with_refused Encodings empty_encoding (accepted Encodings (o.calls e))
  pub between_back : (e : Side) → i.calls e ≡ with_refused Receivings empty_receiving (accepted Receivings (i.calls e))
  -- Word (20, 0) of encoder 0 has three wrong bits and is lost, as no other word is.
  pub three : wrong_bits (o.sent side0) (line_bit p i.received.frames side0) 20 0 ≡ 3
  pub lost : (c : Receiving) → At (accepted Receivings (i.calls side0)) 10 c → Lost (receive c) 20 0
  pub others : (e : Side) (R r : ℕ) (c : Receiving) → r < 16 → At (accepted Receivings (i.calls e)) (R / 2) c
      → (e ≡ side0 → R ≡ 20 → r ≡ 0 → ⊥) → NotLost (receive c) R r
  pub demanded : Demand3 p o i
