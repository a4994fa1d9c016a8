-- What a step is lent serves for what it lends on: the same but for the buffer that is written, of which it lends a part.
-- Assumes nothing.
use Rattle.std.specs.Prelude.{◌≡◌, List, ℕ, length}
use Rattle.cells_spec.specs.Modulation.{Modulation}
use Rattle.superframe_spec.specs.Lent.{CellsToFrames, FramesToCells, CellsToPairs}

pub frames_lent : {p : Modulation} {m : ℕ} {cells overhead all : List ℕ} (n : ℕ) (part : List ℕ) → CellsToFrames p m cells overhead all → length part ≡ n
    → CellsToFrames p n cells overhead part
frames_lent n part lent l =
    record {
      cells_long = lent.cells_long;
      cells_legal = lent.cells_legal;
      overhead_long = lent.overhead_long;
      overhead_legal = lent.overhead_legal;
      frames_long = l;
    }

pub cells_lent : {p : Modulation} {m : ℕ} {frames overhead all : List ℕ} (n : ℕ) (part : List ℕ) → FramesToCells p m frames overhead all → length part ≡ n
    → FramesToCells p n frames overhead part
cells_lent n part lent l =
    record {
      frames_long = lent.frames_long;
      frames_legal = lent.frames_legal;
      overhead_long = lent.overhead_long;
      overhead_legal = lent.overhead_legal;
      cells_long = l;
    }

pub pairs_lent : {p : Modulation} {m : ℕ} {cells all0 all1 : List ℕ} (n : ℕ) (part0 part1 : List ℕ) → CellsToPairs p m cells all0 all1 → length part0 ≡ n
    → length part1 ≡ n → CellsToPairs p n cells part0 part1
pairs_lent n part0 part1 lent l0 l1 =
    record { cells_long = lent.cells_long; cells_legal = lent.cells_legal; pairs0_long = l0; pairs1_long = l1 }
