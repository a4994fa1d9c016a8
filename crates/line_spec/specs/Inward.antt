-- What comes in. 01, "Whole runs": "The line may put any legal cell for any cell, overhead too. Unframing, with that list or another legal
-- one, cells to bits and taking apart give the pairs received."
-- Assumes nothing.
use Rattle.std.specs.Prelude.{◌≡◌, List, [], ℕ, ◌+◌, ◌-◌, ◌*◌, ◌/◌, ◌%◌, ◌<◌, ◌≤◌, length, get_or}
use Rattle.bits.specs.Lists.{tabulate}
use Rattle.calls.specs.Sequences.{At, Run, accepted}
use Rattle.calls.specs.Calls.{After}
use Rattle.pair_spec.specs.Front.{fresh_history}
use Rattle.pair_spec.specs.Calls.{Receiving, Receivings}
use Rattle.pair_spec.specs.Promise.{Limit}
use Rattle.interleaver_spec.specs.Calls.{Deinterleaved, deinterleave_call}
use Rattle.cells_spec.specs.Modulation.{Modulation, cells_per_buffer, pairs_in}
use Rattle.cells_spec.specs.Cells.{overhead_rule, Legal}
use Rattle.cells_spec.specs.Calls.{demap_call}
use Rattle.frame_spec.specs.Frames.{payload_cells, payload_start, frame_rule, sub_frame_of}
use Rattle.frame_spec.specs.Calls.{unframe_call}
use Rattle.line_spec.specs.Sides.{Side, side0, side1, encoder}
use Rattle.line_spec.specs.Line.{line_bit}
use Rattle.line_spec.specs.Outward.{Outward}

-- Output buffers lent to the line calls, of any content and the stated length: a payload for each sub-frame f of the line, bits and the
-- pairs of either encoder for each buffer b.
pub record LentIn : Type 0 where
  pub payload : ℕ → List ℕ
  pub bits : ℕ → List ℕ
  pub pairs : Side → ℕ → List ℕ
  pub payload_long : (f : ℕ) → length (payload f) ≡ payload_cells (f % 48) * 2
  pub bits_long : (b : ℕ) → length (bits b) ≡ 21504
  pub pairs_long : (e : Side) (b : ℕ) → length (pairs e b) ≡ 10752

-- What came off a line of n super-frames, legal but otherwise of any kind; the overhead list that unframing is lent, and the buffers.
pub record ReceivedLine (p : Modulation) (n : ℕ) : Type 0 where
  pub frames : List (List ℕ)
  pub many : length frames ≡ 48 * n
  pub long : (f : ℕ) → f < 48 * n → length (get_or frames f []) ≡ 7424
  pub legal : (f : ℕ) → f < 48 * n → Legal (frame_rule p (f % 48)) (get_or frames f [])
  pub overhead : List ℕ
  pub overhead_long : length overhead ≡ 12288
  pub overhead_legal : Legal overhead_rule overhead
  pub lent : LentIn

-- The calls, "each is made for every buffer or sub-frame".
module _ (p : Modulation) (n : ℕ) (h : ReceivedLine p n) where
  unfoldable pub unframing : ℕ → After (List ℕ)
  unframing f = unframe_call p (f % 48) (get_or h.frames f []) h.overhead (h.lent.payload f)

  -- "Payload runs on from buffer to buffer and sub-frame to sub-frame": byte k of payload cell x of super-frame q, and the cells of buffer
  -- b.
  unfoldable pub received_byte : ℕ → ℕ → ℕ → ℕ
  received_byte q x k = get_or (unframing (48 * q + sub_frame_of x)).written ((x - payload_start (sub_frame_of x)) * 2 + k) 0

  unfoldable pub received_cells : ℕ → List ℕ
  received_cells b = tabulate (cells_per_buffer p * 2) (λ i. received_byte (b / p.bits) (b % p.bits * cells_per_buffer p + i / 2) (i % 2))

  unfoldable pub demapping : ℕ → After (List ℕ)
  demapping b = demap_call p (received_cells b) (h.lent.bits b)

  unfoldable pub parting : ℕ → Deinterleaved
  parting b = deinterleave_call (demapping b).written (h.lent.pairs side0 b) (h.lent.pairs side1 b)

  unfoldable pub pairs_back : Side → ℕ → List ℕ
  pairs_back side0 b = (parting b).written.pairs0
  pairs_back side1 b = (parting b).written.pairs1

  -- Received pair P of an encoder.
  unfoldable pub received_pair : Side → ℕ → List ℕ
  received_pair e P = tabulate 512 (λ i. get_or (pairs_back e (P / 21)) (512 * (P % 21) + i) 0)

-- The two lists of receiving calls on it.
pub record Inward (p : Modulation) (o : Outward p) : Type 0 where
  pub received : ReceivedLine p o.superframes
  pub calls : Side → List Receiving
  pub last : Side → List ℕ
  pub runs : (e : Side) → Run Receivings (fresh_history (encoder e)) (calls e) (last e)
  -- "The accepted calls of a receiver take its encoder's received pairs in order from pair 0, all or only the first so many."
  pub some : (e : Side) → length (accepted Receivings (calls e)) ≤ pairs_in p o.superframes
  pub in_order : (e : Side) (P : ℕ) (c : Receiving) → At (accepted Receivings (calls e)) P c
      → c.coded ≡ received_pair p o.superframes received e P
  -- "The three wrong bits are a limit on the words of the pairs that it took."
  pub limit : (e : Side) → Limit (o.sent e) (line_bit p received.frames e) (length (accepted Receivings (calls e)))
