-- What the workers that go by runs have done of a frame: a sub-frame is 116 groups of a pilot and 31 other cells, and past the edge those
-- carry payload.
-- Assumes nothing.
use Rattle.std.specs.Prelude.{List}
use Prim.Native.Nat.{ℕ, ◌+◌, ◌-◌, ◌*◌, ◌≤◌}
use Rattle.bits.specs.Filling.{Filling}
use Rattle.frame_spec.specs.Frames.{payload_cells, frame_at, payload_at}
use Rattle.frame_spec.specs.Layout.{edge, gap}

-- ---- a group of a frame

-- Byte k of group i.
abbrev pub group_at : ℕ → List ℕ → List ℕ → ℕ → ℕ → ℕ
group_at s payload own i k = frame_at s payload own (i * 64 + k)

-- ---- the groups of a frame: none / more / done

-- All before group i has been placed.
pub record Groups (s : ℕ) (payload own : List ℕ) (i : ℕ) (d : List ℕ) : Type 0 where
  pub turns : i ≤ 116
  pub past : edge s ≤ i * 32
  pub filled : Filling (frame_at s payload own) 7424 (i * 64) d

-- The payload before group i has been taken out.
pub record Runs (s : ℕ) (frame : List ℕ) (i : ℕ) (d : List ℕ) : Type 0 where
  pub turns : i ≤ 116
  pub past : edge s ≤ i * 32
  pub filled : Filling (payload_at s frame) (payload_cells s * 2) (i * 62 - gap s * 2) d
