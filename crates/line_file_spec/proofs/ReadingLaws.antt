-- Laws of reading.
-- Assumes nothing.
use Rattle.std.specs.Prelude.{◌≡◌, ◌⊎◌, ℕ, ◌+◌, ◌-◌, ◌*◌, ◌/◌, ◌%◌, ◌<◌, ◌≤◌, length, get_or, take, drop}
use Rattle.std.proofs.Math.Path.{refl, sym, ap}
use Rattle.std.proofs.Common.{◌∙◌, inl, inr, ⊎_elim, eq-zero-or-pos, arith, length-drop, ext_get_or, length-take-le, get_or-take, get_or-drop}
use mathlib.Core.List.{List, [], ◌∷◌, ◌++◌}
use Rattle.std.proofs.Math.Nat.{add-sub_cancel_left}
use borrow.Author.Tests.{eq-eqb, ne_eqb, eqb-true}
use Rattle.bits.specs.Parts.{part, end_to_end}
use Rattle.bits.proofs.PartLaws.{part_length, part_at, end_to_end_length, end_to_end_at}
use Rattle.calls.specs.Answers.{Answer}
use Rattle.std.specs.Prelude.{Result, Ok, Err}
use Rattle.calls.specs.declared.Refusal.{Refusal}
use Rattle.calls.specs.declared.Refusal.TheVariants.{Misfit, BadHeader, NoSuchFrame}
use Rattle.calls.specs.Answers.{refusal_of, Accepted, TurnedBack}
use Rattle.calls.proofs.AnswerLaws.{accepted_done}
use Rattle.calls.specs.Results.{result}
use Rattle.calls.specs.Calls.{Test, no_sub_frame, no_super_frame, verdict}
use Rattle.calls.proofs.CallLaws.{none_left, is_bad_header, no_bad_header, no_sub_frame_lem, sub_frame_lem, no_super_frame_lem, super_frame}
use Rattle.calls.proofs.CallLaws.{first_refused, first_passed, passed_all, rules_kept, told}
use Rattle.line_file_spec.specs.declared.Header.{Header}
use Rattle.line_file_spec.specs.Header.{header_number, header_tests}
use Rattle.line_file_spec.proofs.HeaderLaws.{Sound, both_true, rules_are, judged_good, judged_done}
use Rattle.line_file_spec.specs.Opening.{header_of, open_answer, part_when, open_call}
use Rattle.line_file_spec.proofs.OpeningLaws.{header_done, header_refused, open_done, open_refused, open_misfit}
use Rattle.line_file_spec.specs.Reading.{other_numbers, read_answer, read_refusal, read_answer_in, start_of, read_part, stretch_result}

-- ---- the numbers of an open file, beside the header of its bytes

-- A number of a header that was not refused.
abbrev number_in : (Header → ℕ) → Result Header Refusal → ℕ
number_in number (Ok h) = number h
number_in number (Err r) = 0

module _ (file : List ℕ) (n o f : ℕ) (h : Header) (is : Ok h ≡ header_of file) (ts : List Test) where
  numbers : (h.superframes ≡ header_number file 0) × (h.overhead ≡ header_number file 1) × (h.frames ≡ header_number file 2)
  numbers =
      let p = is ∙ (judged_done file (length file) 0 (sym (header_done file (Ok h) is h refl))).is in
      (ap (number_in (λ x. x.superframes)) p, ap (number_in (λ x. x.overhead)) p, ap (number_in (λ x. x.frames)) p)

  pub other_n : (n ≡ h.superframes → ⊥) → Err BadHeader ≡ verdict (other_numbers file n o f ∷ ts)
  unfolding other_numbers
  other_n d = let e = numbers in is_bad_header ts _ (simp (ne_eqb n (header_number file 0) (λ p. d (p ∙ sym e.0))))

  pub other_o : n ≡ h.superframes → (o ≡ h.overhead → ⊥) → Err BadHeader ≡ verdict (other_numbers file n o f ∷ ts)
  unfolding other_numbers
  other_o en d =
      let e = numbers in is_bad_header ts _ (simp (eq-eqb _ _ (en ∙ e.0), ne_eqb o (header_number file 1) (λ p. d (p ∙ sym e.1))))

  module _ (en : n ≡ h.superframes) (eo : o ≡ h.overhead) where
    pub other_f : (f ≡ h.frames → ⊥) → Err BadHeader ≡ verdict (other_numbers file n o f ∷ ts)
    unfolding other_numbers
    other_f d =
        let e = numbers in
        is_bad_header ts _ (simp (eq-eqb _ _ (en ∙ e.0), eq-eqb _ _ (eo ∙ e.1), ne_eqb f (header_number file 2) (λ p. d (p ∙ sym e.2))))

    pub same_numbers : f ≡ h.frames → (a : Answer) → a ≡ verdict ts → a ≡ verdict (other_numbers file n o f ∷ ts)
    unfolding other_numbers
    same_numbers ef a =
        let e = numbers in no_bad_header ts _ a (simp (eq-eqb _ _ (en ∙ e.0), eq-eqb _ _ (eo ∙ e.1), eq-eqb _ _ (ef ∙ e.2)))

pub ruleset open_numbers = (other_n, other_o, other_f, same_numbers)

-- The reader's answer as a worker meets it: it has the file's header.
module _ (file : List ℕ) (n o f q s : ℕ) (h : Result Header Refusal) (is : h ≡ header_of file) where
  pub read_unopened : (r : Refusal) → h ≡ Err r → Err r ≡ read_answer file n o f q s
  unfolding read_answer
  read_unopened r e = first_refused (header_tests file (length file)) _ (open_answer file) refl r (sym (header_refused file h is r e))

  pub read_opened : (x : Header) → h ≡ Ok x → (a : Answer) → a ≡ verdict (other_numbers file n o f ∷ no_sub_frame s ∷ no_super_frame q n ∷ [])
      → a ≡ read_answer file n o f q s
  unfolding read_answer
  read_opened x e a g = first_passed (header_tests file (length file)) _ (open_answer file) refl 0 a (sym (header_done file h is x e)) g

-- What holds where the reader is not refused.
pub record Reads (file : List ℕ) (n o f q s : ℕ) : Type 0 where
  pub sound : Sound file (length file)
  pub same_n : n ≡ header_number file 0
  pub same_o : o ≡ header_number file 1
  pub same_f : f ≡ header_number file 2
  pub subframe : s ≤ 47
  pub superframe : q < n

module _ (file : List ℕ) (n o f q s : ℕ) where
  pub reads : (v : ℕ) → read_answer file n o f q s ≡ Ok v → Reads file n o f q s
  unfolding read_answer header_tests other_numbers
  reads v e =
      let p = passed_all (header_tests file (length file) ++ other_numbers file n o f ∷ no_sub_frame s ∷ no_super_frame q n ∷ []) v e in
      let b1 = both_true _ _ (rules_kept _ p.1.1.0) in
      let b2 = both_true _ _ b1.1 in
      record {
        sound = judged_good file (length file) (search (told, p)) (rules_are _ _ _ _ _ (search (told, p)));
        same_n = eqb-true _ _ b1.0;
        same_o = eqb-true _ _ b2.0;
        same_f = eqb-true _ _ b2.1;
        subframe = search (told, p);
        superframe = search (told, p);
      }

  -- The stretch that is handed back lies within the file.
  pub stretch_within : Reads file n o f q s → start_of f q s + 7424 ≤ length file
  stretch_within r = let k = r.sound.rules in omega (arith, k.sum, k.whole, r.same_n, r.same_f, r.subframe, r.superframe)

  -- The part as a worker meets it.
  module _ (a : ℕ) (answer : Answer) (is : answer ≡ read_answer file n o f q s) where
    pub part_fits : (v : ℕ) → answer ≡ Ok v → a ≡ start_of f q s → a + 7424 ≤ length file
    part_fits v e ea = rw ea (stretch_within (reads v (sym is ∙ e)))

    pub part_read : (part : List ℕ) (v : ℕ) → part ≡ take 7424 (drop a file) → answer ≡ Ok v → a ≡ start_of f q s
        → part ≡ read_part file n o f q s
    unfolding read_part
    part_read part v ep e ea = ep ∙ rw ea (ap (λ (x : Answer). part_when x (take 7424 (drop (start_of f q s) file))) (sym e ∙ is))

  pub part_none : (answer : Answer) (r : Refusal) → answer ≡ read_answer file n o f q s → answer ≡ Err r → [] ≡ read_part file n o f q s
  unfolding read_part
  part_none answer r is e = ap (λ (x : Answer). part_when x (take 7424 (drop (start_of f q s) file))) (sym e ∙ is)

pub from_there : (file : List ℕ) (a : ℕ) → take (a + 7424 - a) (drop a file) ≡ take 7424 (drop a file)
from_there file a = rw add-sub_cancel_left

pub ruleset part_cases = (part_fits, part_read, part_none)

-- ---- what callers may lean on

module _ (file : List ℕ) (n o f q s : ℕ) where
  -- A refused reader hands back the empty part.
  pub read_refused_empty : TurnedBack (read_answer file n o f q s) → read_part file n o f q s ≡ []
  unfolding read_part
  read_refused_empty t = go (read_answer file n o f q s) t
    where
      go : (a : Answer) → TurnedBack a → part_when a (take 7424 (drop (start_of f q s) file)) ≡ []
      go (Ok v) h = absurd (h refl)
      go (Err r) h = refl

  -- One that is not refused hands back the bytes of the file from the start of the stretch on, 7,424 of them.
  pub accepted_reads : Accepted (read_answer file n o f q s) → Reads file n o f q s
  accepted_reads a = let d = accepted_done (read_answer file n o f q s) a in reads file n o f q s d.0 d.1

  module _ (a : Accepted (read_answer file n o f q s)) where
    is_stretch : read_part file n o f q s ≡ take 7424 (drop (start_of f q s) file)
    unfolding read_part
    is_stretch = rw (accepted_done (read_answer file n o f q s) a).1

    pub stretch_length : length (read_part file n o f q s) ≡ 7424
    stretch_length = ap length is_stretch ∙ length-take-le 7424 (drop (start_of f q s) file) (simp length-drop (omega (arith, stretch_within file n o f q s (accepted_reads a))))

    pub stretch_byte : (i : ℕ) → i < 7424 → get_or (read_part file n o f q s) i 0 ≡ get_or file (start_of f q s + i) 0
    stretch_byte i l =
        ap (λ (p : List ℕ). get_or p i 0) is_stretch ∙ get_or-take 7424 (drop (start_of f q s) file) i 0 l ∙ get_or-drop (start_of f q s) file i 0

-- Its result: m is the number that the companion gave.
module _ (file : List ℕ) (n o f q s m : ℕ) (is : m ≡ read_refusal file n o f q s) where
  pub stretch_refused : (m ≡ 0 → ⊥) → result m 0 0 ≡ stretch_result (read_refusal file n o f q s) f q s
  unfolding stretch_result
  stretch_refused h = rw is (simp (ne_eqb _ 0 (λ z. h (is ∙ z))))

  -- Where it gave none, the reader hands back a part of 7,424 bytes.
  module _ (handed : List ℕ) (none : m ≡ 0) (eh : handed ≡ read_part file n o f q s) where
    pub handed_length : length handed ≡ 7424
    handed_length = ap length eh ∙ stretch_length file n o f q s (sym is ∙ none)

    pub stretch_done : (i : ℕ) → i ≡ start_of f q s → result 0 (length handed) i ≡ stretch_result (read_refusal file n o f q s) f q s
    unfolding stretch_result
    stretch_done i e = rw (handed_length, e) (simp (eq-eqb _ 0 (sym is ∙ none)))

-- The 48 stretches of a super-frame, end to end, are its bytes of the file.
pub stretches_whole : (file : List ℕ) (n o f q : ℕ) → ((s : ℕ) → s ≤ 47 → Accepted (read_answer file n o f q s))
    → end_to_end 48 7424 (read_part file n o f q) ≡ part (start_of f q 0) 356352 file
stretches_whole file n o f q all =
    ext_get_or 0 whole (part (start_of f q 0) 356352 file) (long ∙ sym (part_length (start_of f q 0) 356352 file inside))
    (λ y l. byte y (omega (arith, long)))
  where
    whole : List ℕ
    whole = end_to_end 48 7424 (read_part file n o f q)

    long : length whole ≡ 356352
    long = end_to_end_length 48 7424 (read_part file n o f q)

    inside : start_of f q 0 + 356352 ≤ length file
    inside = omega (arith, stretch_within file n o f q 47 (accepted_reads file n o f q 47 (all 47 (omega arith))))

    byte : (y : ℕ) → y < 356352 → get_or whole y 0 ≡ get_or (part (start_of f q 0) 356352 file) y 0
    byte y l =
        let e : start_of f q (y / 7424) + y % 7424 ≡ start_of f q 0 + y = omega arith in
        end_to_end_at 48 7424 (read_part file n o f q) y l
        ∙ stretch_byte file n o f q (y / 7424) (all (y / 7424) (omega arith)) (y % 7424) (omega arith)
        ∙ ap (λ i. get_or file i 0) e
        ∙ sym (part_at (start_of f q 0) 356352 file inside y l)

-- No byte of the file is in the stretches of two different sub-frames.
pub stretches_disjoint : (f q s q' s' x : ℕ) → s ≤ 47 → s' ≤ 47 → start_of f q s ≤ x → x < start_of f q s + 7424 → start_of f q' s' ≤ x
    → x < start_of f q' s' + 7424 → (q ≡ q') × (s ≡ s')
stretches_disjoint f q s q' s' x hs hs' a b a' b' = (omega arith, omega arith)

-- Byte x of the frames is in the stretch of this sub-frame.
pub covers : (f n x : ℕ) → x < 356352 * n
    → (x / 356352 < n) × (x % 356352 / 7424 ≤ 47) × (start_of f (x / 356352) (x % 356352 / 7424) ≤ f + x) × (f + x < start_of f (x / 356352) (x % 356352 / 7424) + 7424)
covers f n x l = (omega arith, omega arith, omega arith, omega arith)

-- Reading an opened file: no refusal but No. 4.
module _ (file : List ℕ) (opens : Accepted (open_answer file)) (q s : ℕ) where
  -- Where the opening is done, the frame decides.
  pub opened : (a : Answer) → a ≡ verdict (no_sub_frame s ∷ no_super_frame q (open_call file).superframes ∷ [])
      → a ≡ read_answer_in (open_call file) q s
  unfolding read_answer
  opened a e =
      let d = accepted_done (open_answer file) opens in
      let sound = judged_done file (length file) d.0 d.1 in
      let i = open_done file sound in
      rw i
      (first_passed (header_tests file (length file)) _ (open_answer file) refl d.0 a d.1
      (same_numbers file _ _ _ (record { superframes = header_number file 0; overhead = header_number file 1; frames = header_number file 2; total = header_number file 3 })
      (sym sound.is) _ refl refl refl a (rw i at e)))

  pub opened_done : s ≤ 47 → q < (open_call file).superframes → read_answer_in (open_call file) q s ≡ Ok 0
  opened_done l h = sym (opened (Ok 0) (sub_frame_lem _ s _ l (super_frame _ q _ _ h none_left)))

  pub never_1_or_2 : (refusal_of (read_answer_in (open_call file) q s) ≡ 0) ⊎ (refusal_of (read_answer_in (open_call file) q s) ≡ 4)
  never_1_or_2 =
      ⊎_elim (λ l. inr (sym (ap refusal_of (opened (Err NoSuchFrame) (no_sub_frame_lem _ s l)))))
      (λ l. ⊎_elim (λ h. inl (ap refusal_of (opened_done l h))) (λ h. inr (sym (ap refusal_of (opened (Err NoSuchFrame) (sub_frame_lem _ s _ l (no_super_frame_lem _ q _ h))))))
      (below q (open_call file).superframes))
      (below 47 s)
    where
      below : (a b : ℕ) → (a < b) ⊎ (b ≤ a)
      below a b = ⊎_elim (λ e. inr (omega arith)) (λ l. inl (omega arith)) (eq-zero-or-pos (b - a))

-- A refused opening holds the empty part, so that reading it is refused too.
pub closed_misfit : (file : List ℕ) (r : Refusal) (q s : ℕ) → open_answer file ≡ Err r
    → read_answer_in (open_call file) q s ≡ Err Misfit
unfolding read_answer
closed_misfit file r q s e = rw (open_refused file r e) (sym (first_refused _ _ (open_answer []) refl Misfit (open_misfit [] (omega arith))))
