-- Laws of writing and reading a line file of one super-frame.
-- Assumes nothing.
use Rattle.std.specs.Prelude.{◌≡◌, ℕ, ◌+◌, ◌*◌, ◌<◌, List, [], ◌++◌, length, take, drop, ◌≢◌, refl}
use Rattle.std.proofs.Common.{sym, ap₂, ◌∙◌, append-nil, arith, eq-eqb, ne_eqb, lit<, drop-drop, length-take-le}
use Rattle.std.proofs.Math.Path.{ap}
use borrow.Rule.Slice.PartMut.{put_mid}
use Rattle.std.proofs.Math.ListN.{length-drop, length-append}
use Rattle.std.proofs.Math.Seq.{take_at, drop_at, drop-length, take_all}
use Rattle.bits.specs.Lists.{tabulate}
use Rattle.bits.specs.Parts.{byte_of_each, end_to_end}
use Rattle.bits.proofs.PartLaws.{each_block}
use Rattle.calls.specs.Answers.{Answer}
use Rattle.calls.specs.Calls.{After, after}
use Rattle.line_file_spec.specs.Opening.{open_call}
use Rattle.line_file_spec.specs.Reading.{read_refusal_in, read_part_in}
use Rattle.line_file_spec.proofs.ReadingLaws.{stretch_length}
use Rattle.bits.specs.Numbers32.{bytes32}
use Rattle.bits.proofs.Numbers32Laws.{bytes32_length}
use Rattle.line_file_spec.specs.Writing.{numbers_for, write_call}
use Rattle.line_file_spec.proofs.WritingLaws.{write_done, written_reads, written_whole}
use Rattle.loopback_core.specs.File.{line_file, OneSuperframe, frames_in, taken_when}

-- ---- the file

-- Overhead list and header, written in front of what stands there.
pub file_begun : (d xs ys lent list : List ℕ) (r : Answer) → length d ≡ 368656 → xs ≡ list → length lent ≡ 16
    → after r ys ≡ write_call 1 lent
    → put_mid 0 16 (put_mid 16 12288 d xs) ys ≡ line_file list (drop 12304 d)
unfolding line_file
file_begun d xs ys lent list r ld ex l w =
    ap₂ ◌++◌ is (drop_at (take 16 d) (xs ++ drop 12288 (drop 16 d)) 16 (length-take-le 16 d (omega arith)) ∙ ap₂ ◌++◌ ex (drop-drop 12288 16 d))
  where
    is : ys ≡ bytes32 (numbers_for 1)
    is = ap (λ (x : After (List ℕ)). x.written) (w ∙ sym (write_done 1 lent (bytes32 (numbers_for 1)) l (omega arith) (omega arith) refl))

-- The frames were written before.
pub file_sent : (d d' xs list line : List ℕ) → length d ≡ 368656 → xs ≡ line → d' ≡ line_file list (drop 12304 (put_mid 12304 356352 d xs))
    → d' ≡ line_file list line
file_sent d d' xs list line l ex e =
    e ∙ ap (line_file list)
    (drop_at (take 12304 d) (xs ++ drop 356352 (drop 12304 d)) 12304 (length-take-le 12304 d (omega arith)) ∙ ap₂ ◌++◌ ex none ∙ append-nil line)
  where
    none : drop 356352 (drop 12304 d) ≡ []
    none = drop-drop 356352 12304 d ∙ ap (λ n. drop n d) (sym l) ∙ drop-length d

-- What a reader finds in it.
module _ (d list line : List ℕ) (is : d ≡ line_file list line) (ll : length list ≡ 12288) (long : length d ≡ 368656) where
  pub file_whole : OneSuperframe d
  unfolding line_file
  file_whole =
      record {
        starts = ap (take 16) is ∙ take_at (bytes32 (numbers_for 1)) (list ++ line) 16 (bytes32_length (numbers_for 1));
        long = long;
      }

  file_rest : drop 16 d ≡ list ++ line
  unfolding line_file
  file_rest = ap (drop 16) is ∙ drop_at (bytes32 (numbers_for 1)) (list ++ line) 16 (bytes32_length (numbers_for 1))

  file_line : frames_in d ≡ line
  unfolding frames_in
  file_line =
      ap (take 356352) (sym (drop-drop 12288 16 d) ∙ ap (drop 12288) file_rest ∙ drop_at list line 12288 ll)
      ∙ take_all 356352 line (omega (arith, length-drop 16 d, ap length file_rest ∙ length-append list line))

  -- Frames that are read from it are what was written.
  pub frames_kept : (after : List ℕ) → after ≡ frames_in d → after ≡ line
  frames_kept after e = e ∙ file_line

-- ---- a sub-frame: m is the number that the companion gave, and got the part that was handed back

module _ (file frame : List ℕ) (s m : ℕ) (is : m ≡ read_refusal_in (open_call file) 0 s) where
  module _ (got : List ℕ) (none : m ≡ 0) (e : got ≡ read_part_in (open_call file) 0 s) where
    pub frame_fits : length frame ≡ 7424 → length frame ≡ length got
    frame_fits l = l ∙ sym (ap length e ∙ stretch_length _ _ _ _ 0 s (sym is ∙ none))

    pub frame_taken : (after : List ℕ) → after ≡ got
        → after ≡ taken_when (read_refusal_in (open_call file) 0 s) (read_part_in (open_call file) 0 s) frame
    unfolding taken_when
    frame_taken after ea = ea ∙ e ∙ simp (eq-eqb _ 0 (sym is ∙ none))

  pub frame_left : (m ≢ 0) → frame ≡ taken_when (read_refusal_in (open_call file) 0 s) (read_part_in (open_call file) 0 s) frame
  unfolding taken_when
  frame_left h = simp (ne_eqb _ 0 (λ z. h (is ∙ z)))

pub ruleset frame_read = (frame_fits, frame_taken, frame_left)

-- ---- all of them, of a file that starts with the header

module _ (file : List ℕ) (one : OneSuperframe file) where
  pub file_frame_block : (s : ℕ) (ys lent : List ℕ) → s < 48
      → ys ≡ taken_when (read_refusal_in (open_call file) 0 s) (read_part_in (open_call file) 0 s) lent
      → ys ≡ tabulate 7424 (λ i. byte_of_each 7424 (read_part_in (open_call file) 0) (s * 7424 + i))
  unfolding taken_when
  file_frame_block s ys lent l e =
      let accepted : read_refusal_in (open_call file) 0 s ≡ 0 = written_reads 1 file (omega arith) (omega arith) one.starts one.long 0 s (omega arith) (omega arith) in
      let is : ys ≡ read_part_in (open_call file) 0 s = e ∙ simp (eq-eqb _ 0 accepted) in
      each_block (read_part_in (open_call file) 0) 7424 s ys (lit< tt) (ap length is ∙ stretch_length _ _ _ _ 0 s accepted) is

  pub frames_whole : (d : List ℕ) → d ≡ tabulate 356352 (byte_of_each 7424 (read_part_in (open_call file) 0)) → d ≡ frames_in file
  unfolding end_to_end frames_in
  frames_whole d e = e ∙ written_whole 1 file (omega arith) (omega arith) one.starts one.long 0 (omega arith)
