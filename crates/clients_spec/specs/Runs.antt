-- Whole runs as a client of the exported functions sees them: each call is what was lent, the outcome and the buffers as they were left,
-- and meets the equation of the function's contract. Refusal 0 is "accepted"; what goes on from call to call is the history.
-- Assumes nothing.
use Rattle.std.specs.Prelude.{◌≡◌, List, [], ◌∷◌, ℕ, ◌≤◌, length}
use Rattle.calls.specs.Sequences.{At, Part, Kind, Run, accepted}
use Rattle.pair_spec.specs.Rows.{RowBits}
use Rattle.pair_spec.specs.Front.{fresh_history}
use Rattle.pair_spec.specs.Calls.{encode_buffers, encode_call, receive_buffers, receive_call, Encoding, Receiving}
use Rattle.pair_spec.specs.Promise.{Limit}
use Rattle.cells_spec.specs.Modulation.{Modulation, pairs_in}
use Rattle.cells_spec.specs.Cells.{overhead_rule, Legal}
use Rattle.line_spec.specs.Sides.{Side, encoder}
use Rattle.line_spec.specs.Line.{line_bit}
use Rattle.line_spec.specs.Outward.{LentOut}
use Rattle.line_spec.specs.Inward.{ReceivedLine, received_pair}
use Rattle.capi.specs.declared.Outcome.{Outcome}
use Rattle.capi.specs.Exports.{exported, in_numbers}

-- ---- the calls

-- A call of `ofec_encode_pair`.
pub record EncodeCall : Type 0 where
  pub lent : Encoding
  pub outcome : Outcome
  pub coded : List ℕ
  pub history : List ℕ
  pub meets : exported outcome (encode_buffers coded history) ≡ in_numbers lent.pair (encode_call lent.payload lent.coded lent.history lent.encoder lent.pair)

abbrev pub EncodeCalls : Kind
EncodeCalls =
    record {
      Call = EncodeCall;
      State = List ℕ;
      number = λ c. c.outcome.refusal;
      lent = λ c. c.lent.history;
      left = λ c. c.history;
      Becomes = λ c. Part (c.lent.payload ∷ c.lent.coded ∷ c.lent.history ∷ []) (c.lent.payload ∷ c.coded ∷ c.history ∷ []);
    }

-- A call of `ofec_receive_pair`.
pub record ReceiveCall : Type 0 where
  pub lent : Receiving
  pub outcome : Outcome
  pub payload : List ℕ
  pub marks : List ℕ
  pub history : List ℕ
  pub meets : exported outcome (receive_buffers payload marks history)
      ≡ in_numbers lent.pair (receive_call lent.coded lent.payload lent.marks lent.history lent.encoder lent.pair)

abbrev pub ReceiveCalls : Kind
ReceiveCalls =
    record {
      Call = ReceiveCall;
      State = List ℕ;
      number = λ c. c.outcome.refusal;
      lent = λ c. c.lent.history;
      left = λ c. c.history;
      Becomes = λ c.
          Part (c.lent.coded ∷ c.lent.payload ∷ c.lent.marks ∷ c.lent.history ∷ []) (c.lent.coded ∷ c.payload ∷ c.marks ∷ c.history ∷ []);
    }

-- ---- the four lists over a profile, as in `Outward` and `Inward` of crate `line_spec`

pub record Sends (p : Modulation) : Type 0 where
  pub superframes : ℕ
  pub calls : Side → List EncodeCall
  pub last : Side → List ℕ
  pub runs : (e : Side) → Run EncodeCalls (fresh_history (encoder e)) (calls e) (last e)
  pub filled : (e : Side) → length (accepted EncodeCalls (calls e)) ≡ pairs_in p superframes
  pub overhead : List ℕ
  pub overhead_long : length overhead ≡ 12288
  pub overhead_legal : Legal overhead_rule overhead
  pub lent : LentOut p

pub record Receives (p : Modulation) (superframes : ℕ) (sent : Side → RowBits) : Type 0 where
  pub received : ReceivedLine p superframes
  pub calls : Side → List ReceiveCall
  pub last : Side → List ℕ
  pub runs : (e : Side) → Run ReceiveCalls (fresh_history (encoder e)) (calls e) (last e)
  pub some : (e : Side) → length (accepted ReceiveCalls (calls e)) ≤ pairs_in p superframes
  pub in_order : (e : Side) (P : ℕ) (c : ReceiveCall) → At (accepted ReceiveCalls (calls e)) P c → c.lent.coded ≡ received_pair p superframes received e P
  pub limit : (e : Side) → Limit (sent e) (line_bit p received.frames e) (length (accepted ReceiveCalls (calls e)))
