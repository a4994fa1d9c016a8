-- Laws of opening.
-- Assumes nothing.
use Rattle.std.specs.Prelude.{◌≡◌, refl, cond, List, [], ◌∷◌, ℕ, ◌+◌, ◌*◌, ◌<◌, ◌≤◌, length, Result, Ok, Err}
use Rattle.std.proofs.Common.{sym, ◌∙◌}
use Rattle.std.proofs.Math.Path.{ap}
use Rattle.calls.specs.Answers.{Answer}
use Rattle.calls.specs.declared.Refusal.{Refusal}
use Rattle.calls.specs.declared.Refusal.TheVariants.{Misfit, BadHeader}
use Rattle.calls.specs.Answers.{number_of, refusal_of, Accepted}
use Rattle.calls.specs.Calls.{Test, verdict}
use Rattle.calls.proofs.CallLaws.{by_test}
use Rattle.line_file_spec.specs.declared.Header.{Header}
use Rattle.line_file_spec.specs.Header.{header_number, header_tests, header_when, judged}
use Rattle.line_file_spec.proofs.HeaderLaws.{RulesOf, Sound, judged_short, judged_broken, judged_good, judged_refused}
use Rattle.line_file_spec.specs.Opening.{header_of, open_answer, open_refusal, part_when, open_part, open_file, open_with, open_call}

-- ---- as a worker meets it: it has the file's header

-- An answer without the number of a call that was done, and that of a judged header.
abbrev plain : Answer → Answer
plain (Ok v) = Ok 0
plain (Err r) = Err r

abbrev pub answer_in : Result Header Refusal → Answer
answer_in (Ok h) = Ok 0
answer_in (Err r) = Err r

plain_verdict : (ts : List Test) → plain (verdict ts) ≡ verdict ts
unfolding verdict
plain_verdict [] = refl
plain_verdict (t ∷ ts) = by_test plain t.refuses _ _ ∙ ap (cond t.refuses (Err t.refusal)) (plain_verdict ts)

answer_when : (a : Answer) (n o f total : ℕ) → answer_in (header_when a n o f total) ≡ plain a
answer_when (Ok v) n o f total = refl
answer_when (Err r) n o f total = refl

module _ (file : List ℕ) (h : Result Header Refusal) (is : h ≡ header_of file) where
  pub answer_of : answer_in h ≡ open_answer file
  unfolding judged
  answer_of =
      ap answer_in is
      ∙ answer_when (open_answer file) (header_number file 0) (header_number file 1) (header_number file 2) (header_number file 3)
      ∙ plain_verdict (header_tests file (length file))

  pub header_done : (x : Header) → h ≡ Ok x → Ok 0 ≡ open_answer file
  header_done x e = sym (ap answer_in e) ∙ answer_of

  pub header_refused : (r : Refusal) → h ≡ Err r → Err r ≡ open_answer file
  header_refused r e = sym (ap answer_in e) ∙ answer_of

  pub open_refusal_done : (x : Header) → h ≡ Ok x → 0 ≡ open_refusal file
  open_refusal_done x e = ap refusal_of (header_done x e)

  pub open_refusal_is : (r : Refusal) → h ≡ Err r → number_of r ≡ open_refusal file
  open_refusal_is r e = ap refusal_of (header_refused r e)

  pub open_part_done : (x : Header) → h ≡ Ok x → file ≡ open_part file
  open_part_done x e = ap (λ (a : Answer). part_when a file) (header_done x e)

  pub open_part_refused : (r : Refusal) → h ≡ Err r → [] ≡ open_part file
  open_part_refused r e = ap (λ (a : Answer). part_when a file) (header_refused r e)

  -- The open file by its header.
  pub opens : (x : Header) → h ≡ Ok x → open_file file x.superframes x.overhead x.frames ≡ open_call file
  unfolding open_call
  opens x e = ap (open_with file) (sym e ∙ is)

  pub closes : (r : Refusal) → h ≡ Err r → open_file [] 0 0 0 ≡ open_call file
  unfolding open_call
  closes r e = ap (open_with file) (sym e ∙ is)

pub ruleset open_refusals = (open_refusal_done, open_refusal_is)

pub ruleset open_parts = (open_part_done, open_part_refused)

pub ruleset openings = (opens, closes)

-- ---- the call, case by case

module _ (file : List ℕ) where
  -- Refused, whatever the refusal: the empty part and zeros.
  pub open_refused : (r : Refusal) → open_answer file ≡ Err r → open_call file ≡ open_file [] 0 0 0
  unfolding open_call
  open_refused r e = ap (open_with file) (judged_refused file (length file) r e)

  -- Done: the file itself, with the numbers in its bytes.
  pub open_done : Sound file (length file) → open_call file ≡ open_file file (header_number file 0) (header_number file 1) (header_number file 2)
  unfolding open_call
  open_done s = ap (open_with file) s.is

  -- Which refusal it is, and when there is none.
  pub open_misfit : length file < 16 → open_answer file ≡ Err Misfit
  open_misfit l = sym (answer_of file (header_of file) refl) ∙ ap answer_in (judged_short file (length file) l)

  pub open_bad_header : 16 ≤ length file → (RulesOf file (length file) → ⊥) → open_answer file ≡ Err BadHeader
  open_bad_header l h = sym (answer_of file (header_of file) refl) ∙ ap answer_in (judged_broken file (length file) l h)

  pub sound_accepted : Sound file (length file) → Accepted (open_answer file)
  sound_accepted s = ap refusal_of (sym (answer_of file (header_of file) refl) ∙ ap answer_in s.is)

  pub open_accepted : 16 ≤ length file → RulesOf file (length file) → Accepted (open_answer file)
  open_accepted l r = sound_accepted (judged_good file (length file) l r)

  -- Header, overhead list and frames follow each other, and the frames end with the file.
  pub in_order : Sound file (length file) → (16 ≤ header_number file 1) × (header_number file 1 + 12288 ≤ header_number file 2) × (header_number file 2 + 356352 * header_number file 0 ≡ length file)
  in_order s = let r = s.rules in (r.after_header, r.after_list, sym r.sum ∙ r.whole)
