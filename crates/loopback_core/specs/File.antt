-- The line file of one super-frame, and what is read of it.
-- Assumes nothing.
use Rattle.std.specs.Prelude.{◌≡◌, ℕ, cond, List, ◌++◌, length, take, ◌==◌}
use Rattle.bits.specs.Parts.{part}
use Rattle.bits.specs.Numbers32.{bytes32}
use Rattle.line_file_spec.specs.Writing.{numbers_for}

-- Header, overhead list, frames.
unfoldable pub line_file : List ℕ → List ℕ → List ℕ
line_file list line = bytes32 (numbers_for 1) ++ (list ++ line)

-- A file that starts with the header of one super-frame, and is as long as it says.
pub record OneSuperframe (file : List ℕ) : Type 0 where
  pub starts : take 16 file ≡ bytes32 (numbers_for 1)
  pub long : length file ≡ 368656

-- Its frames.
unfoldable pub frames_in : List ℕ → List ℕ
frames_in file = part 12304 356352 file

-- A buffer after a reading: the stretch where the companion gave no refusal, and as it was where it gave one.
unfoldable pub taken_when : ℕ → List ℕ → List ℕ → List ℕ
taken_when refusal stretch buffer = cond (refusal == 0) stretch buffer
