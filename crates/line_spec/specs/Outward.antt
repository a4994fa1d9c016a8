-- What goes out. 01, "Whole runs": "The coded pairs, in the order of the accepted calls, go through interleaving, cells and framing with
-- any legal overhead list."
-- Assumes nothing.
use Rattle.std.specs.Prelude.{◌≡◌, List, [], map, ℕ, ◌+◌, ◌*◌, ◌/◌, ◌%◌, length, get_or}
use Rattle.bits.specs.Lists.{tabulate}
use Rattle.calls.specs.Sequences.{Run, accepted}
use Rattle.calls.specs.Calls.{After}
use Rattle.pair_spec.specs.Rows.{RowBits}
use Rattle.pair_spec.specs.Sent.{Sent}
use Rattle.pair_spec.specs.Front.{fresh_history}
use Rattle.pair_spec.specs.Calls.{Encoding, encode, Encodings, payloads}
use Rattle.interleaver_spec.specs.Calls.{interleave_call}
use Rattle.cells_spec.specs.Modulation.{Modulation, cells_per_buffer, buffers_in, pairs_in}
use Rattle.cells_spec.specs.Cells.{overhead_rule, Legal}
use Rattle.cells_spec.specs.Calls.{map_call}
use Rattle.frame_spec.specs.Frames.{payload_cells, payload_start}
use Rattle.frame_spec.specs.Calls.{frame_call}
use Rattle.line_spec.specs.Sides.{Side, side0, side1, encoder}

-- Output buffers lent to the line calls, of any content and the stated length: bits and cells for each buffer b, a frame for each
-- sub-frame f of the line.
pub record LentOut (p : Modulation) : Type 0 where
  pub bits : ℕ → List ℕ
  pub cells : ℕ → List ℕ
  pub frame : ℕ → List ℕ
  pub bits_long : (b : ℕ) → length (bits b) ≡ 21504
  pub cells_long : (b : ℕ) → length (cells b) ≡ cells_per_buffer p * 2
  pub frame_long : (f : ℕ) → length (frame f) ≡ 7424

-- "Payloads are free. The two encoding lists have equally many accepted calls, filling whole super-frames, none at all included." "Every
-- list starts from a fresh history", its encoder's.
pub record Outward (p : Modulation) : Type 0 where
  pub superframes : ℕ
  pub calls : Side → List Encoding
  pub last : Side → List ℕ
  pub runs : (e : Side) → Run Encodings (fresh_history (encoder e)) (calls e) (last e)
  pub filled : (e : Side) → length (accepted Encodings (calls e)) ≡ pairs_in p superframes
  pub overhead : List ℕ
  pub overhead_long : length overhead ≡ 12288
  pub overhead_legal : Legal overhead_rule overhead
  pub lent : LentOut p
  -- "an encoder's sent bit of (R, C, r, c) is V by the formulas above, over the payloads of its accepted calls"
  pub sent : Side → RowBits
  pub formulas : (e : Side) → Sent (payloads (calls e)) (sent e)

-- The coded pairs of a list of calls, as its accepted calls left them.
unfoldable pub coded_pairs : List Encoding → List (List ℕ)
coded_pairs cs = map (λ (c : Encoding). (encode c).written.coded) (accepted Encodings cs)

-- The 21 pairs of buffer b, one after the other.
unfoldable pub pairs_of_buffer : List (List ℕ) → ℕ → List ℕ
pairs_of_buffer pairs b = tabulate 10752 (λ i. get_or (get_or pairs (21 * b + i / 512) []) (i % 512) 0)

-- The calls, "each is made for every buffer or sub-frame".
module _ (p : Modulation) (o : Outward p) where
  unfoldable pub interleaving : ℕ → After (List ℕ)
  interleaving b =
      interleave_call (pairs_of_buffer (coded_pairs (o.calls side0)) b) (pairs_of_buffer (coded_pairs (o.calls side1)) b) (o.lent.bits b)

  unfoldable pub mapping : ℕ → After (List ℕ)
  mapping b = map_call p (interleaving b).written (o.lent.cells b)

  -- "Payload runs on from buffer to buffer and sub-frame to sub-frame": byte h of payload cell x of super-frame q; and the payload of
  -- sub-frame f of the line.
  unfoldable pub payload_byte : ℕ → ℕ → ℕ → ℕ
  payload_byte q x h = get_or (mapping (buffers_in p q + x / cells_per_buffer p)).written (x % cells_per_buffer p * 2 + h) 0

  unfoldable pub frame_payload : ℕ → List ℕ
  frame_payload f = tabulate (payload_cells (f % 48) * 2) (λ i. payload_byte (f / 48) (payload_start (f % 48) + i / 2) (i % 2))

  unfoldable pub framing : ℕ → After (List ℕ)
  framing f = frame_call p (f % 48) (frame_payload f) o.overhead (o.lent.frame f)

  -- The frames of the line.
  unfoldable pub frames : List (List ℕ)
  frames = tabulate (48 * o.superframes) (λ f. (framing f).written)
