-- Opening a line file.
-- Assumes nothing.
use Rattle.std.specs.Prelude.{List, [], ℕ, length, Result, Ok, Err}
use Rattle.calls.specs.declared.Refusal.{Refusal}
use Rattle.calls.specs.Answers.{Answer, refusal_of}
use Rattle.calls.specs.Calls.{verdict}
use Rattle.line_file_spec.specs.declared.Header.{Header}
use Rattle.line_file_spec.specs.Header.{header_tests, judged}

-- The header of a file, judged by its bytes and its length.
abbrev pub header_of : List ℕ → Result Header Refusal
header_of file = judged file (length file)

-- What opening answers.
abbrev pub open_answer : List ℕ → Answer
open_answer file = verdict (header_tests file (length file))

-- "a companion call on the same arguments gives the refusal number, or 0"
abbrev pub open_refusal : List ℕ → ℕ
open_refusal file = refusal_of (open_answer file)

-- A part of the file that a call hands on where it is done; the empty part where it is refused.
abbrev pub part_when : Answer → List ℕ → List ℕ
part_when (Ok v) part = part
part_when (Err r) part = []

abbrev pub open_part : List ℕ → List ℕ
open_part file = part_when (open_answer file) file

-- "An open line file travels as one thing with its header numbers."
pub record OpenFile : Type 0 where
  pub file : List ℕ
  pub superframes : ℕ
  pub overhead : ℕ
  pub frames : ℕ

abbrev pub open_file : List ℕ → ℕ → ℕ → ℕ → OpenFile
open_file file n o f = record { file = file; superframes = n; overhead = o; frames = f }

-- The file that is open by this header. "A refused opening holds the empty part and zeros."
abbrev pub open_with : List ℕ → Result Header Refusal → OpenFile
open_with file (Ok h) = open_file file h.superframes h.overhead h.frames
open_with file (Err r) = open_file [] 0 0 0

unfoldable pub open_call : List ℕ → OpenFile
open_call file = open_with file (header_of file)
