-- A stream of pairs coded one after the other: the ten pairs before each pair and what its call gives, from the pairs h and pair number p
-- on. 01, "Rows and pairs": "Encoding a pair gives its coded bytes, the shifted history and P+1"; "Receiving .. gives payload,
-- marks, the shifted history and P+1."
-- Assumes nothing.
use Rattle.std.specs.Prelude.{◌≡◌, List, ℕ, zero, suc, ◌+◌, ◌*◌, ◌≤◌, length}
use Rattle.bits.specs.Parts.{part_of, end_to_end}
use Rattle.pair_spec.specs.History.{depth, shift, fresh}
use Rattle.pair_spec.specs.Front.{held_pairs, history_of, BeforePair}
use Rattle.pair_spec.specs.Encoding.{encoded}
use Rattle.pair_spec.specs.EncodingLaws.{length_encoded}
use Rattle.pair_spec.specs.Receiving.{newest_pair, payload_out, marks}
use Rattle.pair_spec.specs.ReceivingLaws.{length_newest}
use Rattle.pair_spec.specs.Calls.{EncodeBuffers, encode_buffers, ReceiveBuffers, receive_buffers}

-- What a call gives: of the pairs before, the pair number and what it is given.
abbrev pub Gives : Type 0
Gives = List ℕ → ℕ → List ℕ → List ℕ

-- A coder: the bytes that it is given for a pair, and the pair that then enters the history.
pub record Coder : Type 0 where
  pub given : ℕ
  pub newest : Gives
  pub newest_long : (h : List ℕ) (P : ℕ) (s : List ℕ) → length (newest h P s) ≡ 512

abbrev pub pair_encoder : Coder
pair_encoder = record { given = 444; newest = encoded depth; newest_long = length_encoded depth }

abbrev pub pair_receiver : Coder
pair_receiver = record { given = 512; newest = newest_pair depth; newest_long = length_newest depth }

module _ (c : Coder) (h : List ℕ) (p : ℕ) (given : ℕ → List ℕ) where
  -- The pairs before pair k, and what the call on it gives.
  unfoldable pub history_at : ℕ → List ℕ
  history_at zero = h
  history_at (suc k) = shift (history_at k) (c.newest (history_at k) (p + k) (given k))

  unfoldable pub given_at : Gives → ℕ → List ℕ
  given_at out k = out (history_at k) (p + k) (given k)

-- m pairs of a super-frame, which are given end to end: what their calls give, w bytes a pair, end to end; and the ten pairs before the
-- next.
unfoldable pub given_over : Coder → Gives → ℕ → ℕ → List ℕ → ℕ → List ℕ → List ℕ
given_over c out w m h p s = end_to_end m w (given_at c h p (part_of c.given s) out)

unfoldable pub history_over : Coder → ℕ → List ℕ → ℕ → List ℕ → List ℕ
history_over c m h p s = history_at c h p (part_of c.given s) m

-- The coded pairs of payload; payload and marks of coded pairs.
abbrev pub coded_of : ℕ → List ℕ → ℕ → List ℕ → List ℕ
coded_of = given_over pair_encoder (encoded depth) 512

abbrev pub payloads_of : ℕ → List ℕ → ℕ → List ℕ → List ℕ
payloads_of = given_over pair_receiver (payload_out depth) 444

abbrev pub marks_of : ℕ → List ℕ → ℕ → List ℕ → List ℕ
marks_of = given_over pair_receiver (marks depth) 32

-- Buffers, encoder and pair numbers for m pairs, from p on.
pub record EncodesStream (m : ℕ) (payload : List ℕ) (e p : ℕ) (history coded : List ℕ) : Type 0 where
  pub payload_fits_lem : length payload ≡ m * 444
  pub encoder_known : e ≤ 1
  pub numbers_fit : p + m ≤ 4294967295
  pub history_own : BeforePair e p history
  pub coded_fits : length coded ≡ m * 512

pub record ReceivesStream (m : ℕ) (coded : List ℕ) (e p : ℕ) (history payload marks : List ℕ) : Type 0 where
  pub coded_fits : length coded ≡ m * 512
  pub encoder_known : e ≤ 1
  pub numbers_fit : p + m ≤ 4294967295
  pub history_own : BeforePair e p history
  pub payload_fits_lem : length payload ≡ m * 444
  pub marks_fit : length marks ≡ m * 32

-- What stands in the buffers after all m: the history is then encoder e's before pair p + m.
abbrev pub encode_stream : ℕ → List ℕ → ℕ → ℕ → List ℕ → EncodeBuffers
encode_stream m h e p payload =
    encode_buffers (coded_of m (held_pairs h) p payload) (history_of e (p + m) (history_over pair_encoder m (held_pairs h) p payload))

abbrev pub receive_stream : ℕ → List ℕ → ℕ → ℕ → List ℕ → ReceiveBuffers
receive_stream m h e p coded =
    receive_buffers (payloads_of m (held_pairs h) p coded) (marks_of m (held_pairs h) p coded) (history_of e (p + m) (history_over pair_receiver m (held_pairs h) p coded))

-- The pairs before super-frame q, from fresh, where S is what is given for each super-frame.
unfoldable pub history_before : Coder → ℕ → (ℕ → List ℕ) → ℕ → List ℕ
history_before c m S zero = fresh depth
history_before c m S (suc q) = history_over c m (history_before c m S q) (m * q) (S q)
