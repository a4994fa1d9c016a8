-- Laws of writing a header.
-- Assumes nothing.
use Rattle.std.specs.Prelude.{◌≡◌, refl, List, true, false, ℕ, ◌+◌, ◌*◌, ◌^◌, ◌<◌, ◌≤◌, leb, length, get_or, take}
use Rattle.std.proofs.Common.{sym, ◌∙◌, arith, le-leb, take_all}
use Rattle.std.proofs.Math.Path.{ap}
use Rattle.std.proofs.lemmas.Bool.{lt-leb}
use Rattle.bits.specs.Numbers32.{bytes32}
use Rattle.bits.proofs.Numbers32Laws.{bytes32_length, number_written}
use Rattle.bits.specs.Parts.{part, end_to_end}
use Rattle.bits.specs.Tests.{both}
use Rattle.std.specs.Prelude.{Ok}
use Rattle.calls.specs.Answers.{refusal_of, Accepted, TurnedBack}
use Rattle.calls.specs.Calls.{After, after}
use Rattle.calls.proofs.CallLaws.{none_left, no_misfit, no_bad_header, call_done, call_keeps}
use Rattle.line_file_spec.specs.Header.{header_number}
use Rattle.line_file_spec.proofs.HeaderLaws.{Sound, judged_good, number_first}
use Rattle.line_file_spec.specs.Opening.{open_answer, OpenFile, open_file, open_call}
use Rattle.line_file_spec.proofs.OpeningLaws.{open_done, sound_accepted}
use Rattle.line_file_spec.specs.Reading.{read_answer_in, read_part_in, start_of}
use Rattle.line_file_spec.proofs.ReadingLaws.{opened_done, stretches_whole}
use Rattle.line_file_spec.specs.Writing.{numbers_for, write_call}

-- ---- the call

-- The rule of n.
module _ (n : ℕ) where
  pub n_none : n < 1 → both (leb 1 n) (leb n 64) ≡ false
  n_none l = simp (lt-leb _ _ l)

  pub n_many : 64 < n → both (leb 1 n) (leb n 64) ≡ false
  n_many l = let one : 1 ≤ n = omega arith in simp (le-leb _ _ one, lt-leb _ _ l)

  pub n_fits : 1 ≤ n → n ≤ 64 → both (leb 1 n) (leb n 64) ≡ true
  n_fits a b = simp (le-leb _ _ a, le-leb _ _ b)

pub ruleset n_rule = (n_none, n_many, n_fits)

module _ (n : ℕ) (header : List ℕ) where
  pub write_done : (h : List ℕ) → length header ≡ 16 → 1 ≤ n → n ≤ 64 → h ≡ bytes32 (numbers_for n)
      → after (Ok 0) h ≡ write_call n header
  write_done h e a b q = call_done _ _ _ _ (no_misfit _ _ _ _ e (no_bad_header _ _ _ (n_fits n a b) none_left)) (ap (after (Ok 0)) q)

  -- A refused call leaves the buffer as it was.
  pub write_keeps : TurnedBack (write_call n header).answer → (write_call n header).written ≡ header
  write_keeps = call_keeps _ _ _ refl

  -- One with a buffer of 16 bytes and n from 1 to 64 is accepted.
  pub write_accepted : length header ≡ 16 → 1 ≤ n → n ≤ 64 → Accepted (write_call n header).answer
  write_accepted e a b = ap (λ (w : After (List ℕ)). refusal_of w.answer) (sym (write_done (bytes32 (numbers_for n)) e a b refl))

-- A file of the right length that starts with the written header opens, with n, o = 16 and f = 12,304.
module _ (n : ℕ) (file : List ℕ) (one : 1 ≤ n) (most : n ≤ 64) (starts : take 16 file ≡ bytes32 (numbers_for n)) (long : length file ≡ 12304 + 356352 * n) where
  reads_back : (k : ℕ) → k < 4 → get_or (numbers_for n) k 0 < 2 ^ 32 → header_number file k ≡ get_or (numbers_for n) k 0
  reads_back k l small =
      number_first file (bytes32 (numbers_for n)) k l (starts ∙ sym (take_all 16 (bytes32 (numbers_for n)) (omega (arith, bytes32_length (numbers_for n)))))
      ∙ number_written (numbers_for n) k l small

  pub written_sound : Sound file (length file)
  written_sound =
      judged_good file (length file) (omega arith)
      (record {
        one = omega (arith, e0);
        most = omega (arith, e0);
        after_header = omega (arith, e1);
        after_list = omega (arith, e1, e2);
        sum = omega (arith, e0, e2, e3);
        whole = omega (arith, e3);
      })
    where
      e0 : header_number file 0 ≡ n
      e0 = reads_back 0 (omega arith) (omega arith)

      e1 : header_number file 1 ≡ 16
      e1 = reads_back 1 (omega arith) (omega arith)

      e2 : header_number file 2 ≡ 12304
      e2 = reads_back 2 (omega arith) (omega arith)

      e3 : header_number file 3 ≡ 12304 + 356352 * n
      e3 = reads_back 3 (omega arith) (omega arith)

  pub written_opens : open_call file ≡ open_file file n 16 12304
  written_opens =
      open_done file written_sound ∙ rw (reads_back 0 (omega arith) (omega arith), reads_back 1 (omega arith) (omega arith), reads_back 2 (omega arith) (omega arith))

  -- Each of its sub-frames can be read, and those of a super-frame make up its bytes.
  pub written_reads : (q s : ℕ) → q < n → s ≤ 47 → Accepted (read_answer_in (open_call file) q s)
  written_reads q s lq ls =
      ap refusal_of (opened_done file opens q s ls (omega (arith, ap (λ (d : OpenFile). d.superframes) written_opens)))
    where
      opens : Accepted (open_answer file)
      opens = sound_accepted file written_sound

  pub written_whole : (q : ℕ) → q < n → end_to_end 48 7424 (read_part_in (open_call file) q) ≡ part (start_of 12304 q 0) 356352 file
  written_whole q l =
      ap (λ d. end_to_end 48 7424 (read_part_in d q)) written_opens
      ∙ stretches_whole file n 16 12304 q (λ s ls. ap (λ d. refusal_of (read_answer_in d q s)) (sym written_opens) ∙ written_reads q s l ls)
