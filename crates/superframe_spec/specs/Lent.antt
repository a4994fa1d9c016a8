-- What the steps over a super-frame, and the workers below them, are lent: buffers of the right lengths, and legal where they must be. A
-- super-frame has 10,752 bytes of coded pairs of each encoder for each of its buffers, 344,064 bytes of payload cells, 12,288 bytes of
-- overhead cells and 356,352 bytes of frames.
-- Assumes nothing.
use Rattle.std.specs.Prelude.{◌≡◌, List, ℕ, ◌*◌, length}
use Rattle.cells_spec.specs.Modulation.{Modulation}
use Rattle.cells_spec.specs.Cells.{overhead_rule, payload_rule, Legal}
use Rattle.superframe_spec.specs.Apart.{line_rule}

-- ---- outward

-- Coded pairs of both encoders, and room for n bytes of payload cells.
pub record PairsToCells (p : Modulation) (n : ℕ) (pairs0 pairs1 cells : List ℕ) : Type 0 where
  pub pairs0_long : length pairs0 ≡ p.bits * 10752
  pub pairs1_long : length pairs1 ≡ p.bits * 10752
  pub cells_long : length cells ≡ n

-- Payload cells and an overhead list, both legal, and room for n bytes of frames.
pub record CellsToFrames (p : Modulation) (n : ℕ) (cells overhead frames : List ℕ) : Type 0 where
  pub cells_long : length cells ≡ 344064
  pub cells_legal : Legal (payload_rule p) cells
  pub overhead_long : length overhead ≡ 12288
  pub overhead_legal : Legal overhead_rule overhead
  pub frames_long : length frames ≡ n

-- Coded pairs of both encoders, a legal overhead list, and room for the frames.
pub record PairsToFrames (p : Modulation) (pairs0 pairs1 overhead frames : List ℕ) : Type 0 where
  pub pairs0_long : length pairs0 ≡ p.bits * 10752
  pub pairs1_long : length pairs1 ≡ p.bits * 10752
  pub overhead_long : length overhead ≡ 12288
  pub overhead_legal : Legal overhead_rule overhead
  pub frames_long : length frames ≡ 356352

-- ---- inward

-- Frames and an overhead list, both legal.
pub record LegalFrames (p : Modulation) (frames overhead : List ℕ) : Type 0 where
  pub frames_legal : Legal (line_rule p) frames
  pub overhead_legal : Legal overhead_rule overhead

-- Frames and an overhead list, both legal, and room for n bytes of payload cells.
pub record FramesToCells (p : Modulation) (n : ℕ) (frames overhead cells : List ℕ) : Type 0 where
  pub frames_long : length frames ≡ 356352
  pub frames_legal : Legal (line_rule p) frames
  pub overhead_long : length overhead ≡ 12288
  pub overhead_legal : Legal overhead_rule overhead
  pub cells_long : length cells ≡ n

-- Legal payload cells, and room for n bytes of coded pairs of each encoder.
pub record CellsToPairs (p : Modulation) (n : ℕ) (cells pairs0 pairs1 : List ℕ) : Type 0 where
  pub cells_long : length cells ≡ 344064
  pub cells_legal : Legal (payload_rule p) cells
  pub pairs0_long : length pairs0 ≡ n
  pub pairs1_long : length pairs1 ≡ n

-- Frames and an overhead list, legal or not, and room for the coded pairs of both encoders.
pub record FramesToPairs (p : Modulation) (frames overhead pairs0 pairs1 : List ℕ) : Type 0 where
  pub frames_long : length frames ≡ 356352
  pub overhead_long : length overhead ≡ 12288
  pub pairs0_long : length pairs0 ≡ p.bits * 10752
  pub pairs1_long : length pairs1 ≡ p.bits * 10752
