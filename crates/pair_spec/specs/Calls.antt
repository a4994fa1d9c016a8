-- The calls that encode and receive a pair: what is lent, what stands afterwards, and one definition from the first to the second.
-- 01, "Turned-back calls": No. 1 misfit, "a lent buffer is not of the stated length", before No. 3 count spent, "pair number
-- 4,294,967,295". "Buffers and pair number stay." 02, E2: "A call also names its encoder, 0 or 1"; "Number 6, stray history, is tested
-- directly after 1".
-- Assumes nothing.
use Rattle.std.specs.Prelude.{List, [], ◌∷◌, map, ℕ, ◌+◌}
use Rattle.calls.specs.Answers.{Answer}
use Rattle.std.specs.Prelude.{Ok}
use Rattle.calls.specs.Answers.{refusal_of}
use Rattle.calls.specs.Calls.{After, after, misfit, stray_history, count_spent, call}
use Rattle.calls.specs.Sequences.{Part, Kind, accepted}
use Rattle.pair_spec.specs.History.{depth, shift}
use Rattle.pair_spec.specs.Front.{encoder_of, next_pair, held_pairs, history_of, history_bytes}
use Rattle.pair_spec.specs.Encoding.{encoded}
use Rattle.pair_spec.specs.Receiving.{newest_pair, payload_out, marks}

-- ---- encoding a pair

-- What the call may write.
pub record EncodeBuffers : Type 0 where
  pub coded : List ℕ
  pub history : List ℕ

abbrev pub encode_buffers : List ℕ → List ℕ → EncodeBuffers
encode_buffers coded history = record { coded = coded; history = history }

-- What stands after it: `Ok` with the next pair number, and these.
abbrev pub Encoded : Type 0
Encoded = After EncodeBuffers

abbrev pub after_encode : Answer → List ℕ → List ℕ → Encoded
after_encode a coded history = after a (encode_buffers coded history)

-- What encoding a pair gives, of the ten pairs before: its coded bytes, and the pairs shifted.
abbrev pub encode_pair : List ℕ → ℕ → List ℕ → EncodeBuffers
encode_pair pairs P payload = encode_buffers (encoded depth pairs P payload) (shift pairs (encoded depth pairs P payload))

-- Of a history of encoder e: the same behind the front, which then shows e and P + 1.
abbrev pub encode_next : List ℕ → ℕ → ℕ → List ℕ → EncodeBuffers
encode_next history e P payload =
    encode_buffers (encode_pair (held_pairs history) P payload).coded (history_of e (P + 1) (encode_pair (held_pairs history) P payload).history)

abbrev pub encode_call : List ℕ → List ℕ → List ℕ → ℕ → ℕ → Encoded
encode_call payload coded history e P =
    call
    (misfit payload 444 ∷ misfit coded 512 ∷ misfit history history_bytes ∷ stray_history (encoder_of history) (next_pair history) e P ∷ count_spent P ∷ [])
    (encode_buffers coded history)
    (after (Ok (P + 1)) (encode_next history e P payload))

-- ---- receiving a pair

pub record ReceiveBuffers : Type 0 where
  pub payload : List ℕ
  pub marks : List ℕ
  pub history : List ℕ

abbrev pub receive_buffers : List ℕ → List ℕ → List ℕ → ReceiveBuffers
receive_buffers payload marks history = record { payload = payload; marks = marks; history = history }

abbrev pub Received : Type 0
Received = After ReceiveBuffers

abbrev pub after_receive : Answer → List ℕ → List ℕ → List ℕ → Received
after_receive a payload marks history = after a (receive_buffers payload marks history)

-- What receiving a pair gives, of the n pairs before: payload and marks, and the pairs with the repaired one shifted in.
abbrev pub receive_pair : ℕ → List ℕ → ℕ → List ℕ → ReceiveBuffers
receive_pair n pairs P coded = receive_buffers (payload_out n pairs P coded) (marks n pairs P coded) (shift pairs (newest_pair n pairs P coded))

-- Of a history of encoder e.
abbrev pub receive_next : ℕ → List ℕ → ℕ → ℕ → List ℕ → ReceiveBuffers
receive_next n history e P coded =
    receive_buffers (receive_pair n (held_pairs history) P coded).payload (receive_pair n (held_pairs history) P coded).marks
    (history_of e (P + 1) (receive_pair n (held_pairs history) P coded).history)

abbrev pub receive_call : List ℕ → List ℕ → List ℕ → List ℕ → ℕ → ℕ → Received
receive_call coded payload marks' history e P =
    call
    (misfit coded 512
    ∷ misfit payload 444
    ∷ misfit marks' 32
    ∷ misfit history history_bytes
    ∷ stray_history (encoder_of history) (next_pair history) e P
    ∷ count_spent P
    ∷ [])
    (receive_buffers payload marks' history)
    (after (Ok (P + 1)) (receive_next depth history e P coded))

-- ---- lists of calls

-- What is lent to a call of each kind, and the encoder and the pair number that it names.
pub record Encoding : Type 0 where
  pub payload : List ℕ
  pub coded : List ℕ
  pub history : List ℕ
  pub encoder : ℕ
  pub pair : ℕ

pub record Receiving : Type 0 where
  pub coded : List ℕ
  pub payload : List ℕ
  pub marks : List ℕ
  pub history : List ℕ
  pub encoder : ℕ
  pub pair : ℕ

unfoldable pub encode : Encoding → Encoded
encode c = encode_call c.payload c.coded c.history c.encoder c.pair

unfoldable pub receive : Receiving → Received
receive c = receive_call c.coded c.payload c.marks c.history c.encoder c.pair

-- What one call hands on to the next is the history alone: "From a fresh history, passed on from answer to call".
abbrev pub Encodings : Kind
Encodings =
    record {
      Call = Encoding;
      State = List ℕ;
      number = λ c. refusal_of (encode c).answer;
      lent = λ c. c.history;
      left = λ c. (encode c).written.history;
      Becomes = λ c. Part (c.payload ∷ c.coded ∷ c.history ∷ []) (c.payload ∷ (encode c).written.coded ∷ (encode c).written.history ∷ []);
    }

abbrev pub Receivings : Kind
Receivings =
    record {
      Call = Receiving;
      State = List ℕ;
      number = λ c. refusal_of (receive c).answer;
      lent = λ c. c.history;
      left = λ c. (receive c).written.history;
      Becomes = λ c.
          Part (c.coded ∷ c.payload ∷ c.marks ∷ c.history ∷ []) (c.coded ∷ (receive c).written.payload ∷ (receive c).written.marks ∷ (receive c).written.history ∷ []);
    }

-- "the payloads of its accepted calls"
unfoldable pub payloads : List Encoding → List (List ℕ)
payloads cs = map (λ (c : Encoding). c.payload) (accepted Encodings cs)
