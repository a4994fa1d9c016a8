-- What runs may be made of, to show that the premises of demand 3 can be met; and what is claimed over a line that alters nothing, or up to
-- three bits of a word.
-- Assumes nothing.
use Rattle.std.specs.Prelude.{◌≡◌, cond, List, [], ℕ, ◌+◌, ◌/◌, ◌<◌, ◌≤◌, ltb, length, get_or}
use Rattle.bits.specs.Bits.{bit}
use Rattle.bits.specs.Count.{count, differs}
use Rattle.calls.specs.Sequences.{At, accepted}
use Rattle.pair_spec.specs.Rows.{RowBits, word_of}
use Rattle.pair_spec.specs.History.{depth}
use Rattle.pair_spec.specs.Front.{fresh_history}
use Rattle.pair_spec.specs.Calls.{Encoding, Encodings, Receiving, Receivings, receive, payloads}
use Rattle.pair_spec.specs.Promise.{wrong_bits, mark_of, NotLost, AsSent}
use Rattle.cells_spec.specs.Modulation.{Modulation, pairs_in, rows_in}
use Rattle.cells_spec.specs.Cells.{overhead_rule, Legal}
use Rattle.line_spec.specs.Sides.{Side, encoder}
use Rattle.line_spec.specs.Line.{line_bit}
use Rattle.line_spec.specs.Outward.{LentOut, Outward}
use Rattle.line_spec.specs.Inward.{ReceivedLine, received_pair, Inward}
use Rattle.line_spec.specs.CallLists.{one_by_one}

-- ---- lists of calls

-- Any payloads of 444 bytes that fill super-frames within the 32-bit pair number, any legal overhead list, and lent buffers of any
-- content and the stated length.
pub record Given (p : Modulation) : Type 0 where
  pub superframes : ℕ
  pub within : pairs_in p superframes ≤ 4294967295
  pub payloads : Side → List (List ℕ)
  pub many : (e : Side) → length (payloads e) ≡ pairs_in p superframes
  pub long : (e : Side) (P : ℕ) → P < pairs_in p superframes → length (get_or (payloads e) P []) ≡ 444
  pub coded : Side → ℕ → List ℕ
  pub coded_long : (e : Side) (P : ℕ) → length (coded e P) ≡ 512
  pub overhead : List ℕ
  pub overhead_long : length overhead ≡ 12288
  pub overhead_legal : Legal overhead_rule overhead
  pub lent : LentOut p

-- Encoding call P, lent the history that the one before left.
abbrev pub encoding_of : (p : Modulation) → Given p → Side → ℕ → List ℕ → Encoding
encoding_of p g e P s = record { payload = get_or (g.payloads e) P []; coded = g.coded e P; history = s; encoder = encoder e; pair = P }

-- The calls of an encoder, with no refused one among them.
unfoldable pub encodings : (p : Modulation) → Given p → Side → List Encoding
encodings p g e = one_by_one Encodings (encoding_of p g e) (pairs_in p g.superframes) 0 (fresh_history (encoder e))

-- Buffers lent to receiving calls.
pub record LentBack : Type 0 where
  pub payload : Side → ℕ → List ℕ
  pub marks : Side → ℕ → List ℕ
  pub payload_long : (e : Side) (P : ℕ) → length (payload e P) ≡ 444
  pub marks_long : (e : Side) (P : ℕ) → length (marks e P) ≡ 32

module _ (p : Modulation) (n : ℕ) (h : ReceivedLine p n) (room : LentBack) where
  -- Receiving call P on received pair P, and the calls of a receiver that takes the first m pairs.
  abbrev pub receiving_of : Side → ℕ → List ℕ → Receiving
  receiving_of e P s =
      record { coded = received_pair p n h e P; payload = room.payload e P; marks = room.marks e P; history = s; encoder = encoder e; pair = P }

  unfoldable pub receivings : Side → ℕ → List Receiving
  receivings e m = one_by_one Receivings (receiving_of e) m 0 (fresh_history (encoder e))

-- Calls that are lent nothing, which are refused.
abbrev pub empty_encoding : Encoding
empty_encoding = record { payload = []; coded = []; history = []; encoder = 0; pair = 0 }

abbrev pub empty_receiving : Receiving
empty_receiving = record { coded = []; payload = []; marks = []; history = []; encoder = 0; pair = 0 }

-- ---- a line that alters nothing

-- Of every pair taken, every mark is 0 and all payload comes back.
pub record AllBack (p : Modulation) (o : Outward p) (i : Inward p o) : Type 0 where
  pub marks : (e : Side) (P : ℕ) (c : Receiving) → At (accepted Receivings (i.calls e)) P c → (w : ℕ) → w < 32
      → get_or (receive c).written.marks w 0 ≡ 0
  pub payload : (e : Side) (P : ℕ) (c : Receiving) → At (accepted Receivings (i.calls e)) P c → (j : ℕ) → j < 3552
      → bit (receive c).written.payload j ≡ bit (get_or (payloads (o.calls e)) P []) j

-- ---- a line with errors in one word

-- Errors in the back half of a word (R, r) of the rows below n, at most three: bit 128 + k is to be wrong where `at k` is 1.
pub record WordErrors (n : ℕ) : Type 0 where
  pub R : ℕ
  pub r : ℕ
  pub at : ℕ → ℕ
  pub row : R < n
  pub bit_row_lem : r < 16
  pub bits : (k : ℕ) → k < 128 → at k < 2
  pub three : count 128 at ≤ 3

-- In the rows below n, the received bits W are the sent bits S but for these.
pub record Errors (S W : RowBits) (n : ℕ) (w : WordErrors n) : Type 0 where
  pub wrong : (k : ℕ) → k < 128 → differs (word_of W w.R w.r (128 + k)) (word_of S w.R w.r (128 + k)) ≡ w.at k
  pub right : (Q D s d : ℕ) → Q < n → D < 8 → s < 16 → d < 16 → (Q ≡ w.R → s ≡ w.r → ⊥) → W Q D s d ≡ S Q D s d

-- A line with just these errors in a word of each encoder, and receivers that take all its pairs.
pub record Erring (p : Modulation) (o : Outward p) (w : Side → WordErrors (rows_in p o.superframes)) (i : Inward p o) : Type 0 where
  pub errors : (e : Side) → Errors (o.sent e) (line_bit p i.received.frames e) (rows_in p o.superframes) (w e)
  pub all : (e : Side) → length (accepted Receivings (i.calls e)) ≡ pairs_in p o.superframes
  -- The mark of that word is the number of its errors: 1, 2, or 3 for lost.
  pub marked : (e : Side) (c : Receiving) → At (accepted Receivings (i.calls e)) ((w e).R / 2) c
      → mark_of (receive c) (w e).R (w e).r ≡ count 128 (w e).at
  -- Unless it has three, it is not lost and repaired, as every other word.
  pub as_sent : (e : Side) (R r : ℕ) (c : Receiving) → r < 16 → At (accepted Receivings (i.calls e)) (R / 2) c
      → (R ≡ (w e).R → r ≡ (w e).r → count 128 (w e).at ≡ 3 → ⊥)
      → NotLost (receive c) R r × ((k : ℕ) → 128 ≤ k → k < 256 → AsSent depth (o.sent e) (receive c) R r k)

-- j errors at the first places of the back half.
unfoldable pub first_places : ℕ → ℕ → ℕ
first_places j k = cond (ltb k j) 1 0

-- Receivers that take all pairs of a line on which word (R, r) of encoder e has j e wrong bits, and mark it so: 1, 2, or 3 for lost.
pub record Marked (p : Modulation) (o : Outward p) (R r : ℕ) (j : Side → ℕ) (i : Inward p o) : Type 0 where
  pub all : (e : Side) → length (accepted Receivings (i.calls e)) ≡ pairs_in p o.superframes
  pub wrong : (e : Side) → wrong_bits (o.sent e) (line_bit p i.received.frames e) R r ≡ j e
  pub mark : (e : Side) (c : Receiving) → At (accepted Receivings (i.calls e)) (R / 2) c → mark_of (receive c) R r ≡ j e
