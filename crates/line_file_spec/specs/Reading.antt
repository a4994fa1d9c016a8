-- Reading a sub-frame of a line file.
-- Assumes nothing.
use Rattle.std.specs.Prelude.{cond, List, [], ◌∷◌, ◌++◌, ℕ, ◌+◌, ◌*◌, eqb, length, take, drop}
use Rattle.bits.specs.Tests.{both}
use Rattle.calls.specs.Answers.{Answer}
use Rattle.calls.specs.Answers.{refusal_of}
use Rattle.calls.specs.Results.{Result, result}
use Rattle.calls.specs.Calls.{Test, bad_header, no_sub_frame, no_super_frame, verdict}
use Rattle.line_file_spec.specs.Header.{header_number, header_tests}
use Rattle.line_file_spec.specs.Opening.{part_when, OpenFile}

-- No. 2: "An open file whose numbers differ from those in its bytes".
unfoldable pub other_numbers : List ℕ → ℕ → ℕ → ℕ → Test
other_numbers file n o f = bad_header (both (eqb n (header_number file 0)) (both (eqb o (header_number file 1)) (eqb f (header_number file 2))))

-- What the reader answers: the bytes are refused as the opening of them would be, then the numbers, then the frame.
unfoldable pub read_answer : List ℕ → ℕ → ℕ → ℕ → ℕ → ℕ → Answer
read_answer file n o f q s = verdict (header_tests file (length file) ++ other_numbers file n o f ∷ no_sub_frame s ∷ no_super_frame q n ∷ [])

-- "a companion call on the same arguments gives the refusal number, or 0"
abbrev pub read_refusal : List ℕ → ℕ → ℕ → ℕ → ℕ → ℕ → ℕ
read_refusal file n o f q s = refusal_of (read_answer file n o f q s)

-- "7,424 bytes from f + 356,352×q + 7,424×s".
abbrev pub start_of : ℕ → ℕ → ℕ → ℕ
start_of f q s = f + 356352 * q + 7424 * s

-- "For super-frame q and sub-frame s the reader hands back that sub-frame's own stretch of the file", "and a refused reader
-- hands back the empty part".
unfoldable pub read_part : List ℕ → ℕ → ℕ → ℕ → ℕ → ℕ → List ℕ
read_part file n o f q s = part_when (read_answer file n o f q s) (take 7424 (drop (start_of f q s) file))

-- Where that stretch stands, as a result in numbers, r being the companion's number: the length, and the start as the index; zeros in a
-- refusal.
unfoldable pub stretch_result : ℕ → ℕ → ℕ → ℕ → Result
stretch_result r f q s = cond (eqb r 0) (result 0 7424 (start_of f q s)) (result r 0 0)

-- The same of an open file.
abbrev pub read_answer_in : OpenFile → ℕ → ℕ → Answer
read_answer_in d q s = read_answer d.file d.superframes d.overhead d.frames q s

abbrev pub read_refusal_in : OpenFile → ℕ → ℕ → ℕ
read_refusal_in d q s = refusal_of (read_answer_in d q s)

abbrev pub read_part_in : OpenFile → ℕ → ℕ → List ℕ
read_part_in d q s = read_part d.file d.superframes d.overhead d.frames q s
