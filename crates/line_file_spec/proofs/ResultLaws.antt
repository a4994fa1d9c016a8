-- The results of opening and reading a line file, which the companions give, and of writing a header, in the numbers of 01.
-- Assumes nothing.
use Rattle.std.specs.Prelude.{◌≡◌, refl, cond, not, ◌||◌, List, [], ℕ, eqb, ltb, leb, length, take, drop}
use Rattle.std.proofs.Common.{◌∙◌, ne_eqb}
use Rattle.bits.specs.Tests.{both}
use Rattle.calls.specs.Answers.{Answer}
use Rattle.std.specs.Prelude.{Ok, Err}
use Rattle.calls.specs.Answers.{number_of, refusal_of}
use Rattle.calls.proofs.AnswerLaws.{refused_turned}
use Rattle.calls.specs.Results.{result, result_of}
use Rattle.calls.specs.Calls.{misfit, short_file, bad_header, no_sub_frame, no_super_frame}
use Rattle.calls.proofs.ResultLaws.{results, call_result, verdict_result}
use Rattle.line_file_spec.specs.Header.{header_number, rules_hold, header_tests, header_when, judged}
use Rattle.line_file_spec.specs.Opening.{open_answer, open_refusal, part_when, open_with, open_call}
use Rattle.line_file_spec.specs.Reading.{other_numbers, read_answer, read_refusal, start_of, read_part}
use Rattle.line_file_spec.specs.Writing.{write_call}

-- 1 of a file under 16 bytes, 2 where a header rule fails; otherwise 0.
pub open_result : (file : List ℕ) → result_of 0 (open_answer file)
    ≡ cond (ltb (length file) 16) (result 1 0 0)
    (cond (not (rules_hold (header_number file 0) (header_number file 1) (header_number file 2) (header_number file 3) (length file))) (result 2 0 0)
    (result 0 0 0))
unfolding header_tests short_file bad_header
open_result file = verdict_result 0 _

-- As of opening; 2 too where the numbers of the open file differ from those in its bytes; 4 where there is no such frame.
pub read_result : (file : List ℕ) (n o f q s : ℕ) → result_of 0 (read_answer file n o f q s)
    ≡ cond (ltb (length file) 16) (result 1 0 0)
    (cond (not (rules_hold (header_number file 0) (header_number file 1) (header_number file 2) (header_number file 3) (length file))
    || not (both (eqb n (header_number file 0)) (both (eqb o (header_number file 1)) (eqb f (header_number file 2))))) (result 2 0 0)
    (cond (ltb 47 s || leb n q) (result 4 0 0)
    (result 0 0 0)))
unfolding read_answer header_tests short_file other_numbers bad_header no_sub_frame no_super_frame
read_result file n o f q s = verdict_result 0 _ ∙ simp results

-- 1 where the buffer is not of 16 bytes, 2 where n is not 1 to 64; otherwise 0.
pub write_result : (n : ℕ) (header : List ℕ) → result_of 0 (write_call n header).answer
    ≡ cond (not (eqb (length header) 16)) (result 1 0 0)
    (cond (not (both (leb 1 n) (leb n 64))) (result 2 0 0)
    (result 0 0 0))
unfolding misfit bad_header
write_result n header = call_result 0 _ _ _ ∙ simp results

-- ---- what is handed back, by the companion's number: the part where that is 0, and the empty part otherwise

part_result : (a : Answer) (part : List ℕ) → part_when a part ≡ cond (eqb (refusal_of a) 0) part []
part_result (Ok v) part = refl
part_result (Err r) part = simp (ne_eqb (number_of r) 0 (refused_turned r))

file_when : (file : List ℕ) (a : Answer) (n o f total : ℕ) → (open_with file (header_when a n o f total)).file ≡ part_when a file
file_when file (Ok v) n o f total = refl
file_when file (Err r) n o f total = refl

pub open_part_result : (file : List ℕ) → (open_call file).file ≡ cond (eqb (open_refusal file) 0) file []
unfolding open_call judged
open_part_result file =
    file_when file (open_answer file) (header_number file 0) (header_number file 1) (header_number file 2) (header_number file 3)
    ∙ part_result (open_answer file) file

pub read_part_result : (file : List ℕ) (n o f q s : ℕ)
    → read_part file n o f q s ≡ cond (eqb (read_refusal file n o f q s) 0) (take 7424 (drop (start_of f q s) file)) []
unfolding read_part
read_part_result file n o f q s = part_result (read_answer file n o f q s) (take 7424 (drop (start_of f q s) file))
