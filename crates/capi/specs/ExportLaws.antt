-- An exported function that hands the library's call on, and its answer in numbers, gives what it should.
-- Assumes nothing.
use Rattle.std.specs.Prelude.{◌≡◌, refl, List, ℕ, ◌^◌, ◌<◌, length, Result, Ok, Err}
use Rattle.std.proofs.Common.{sym, ◌∙◌, arith}
use Rattle.std.proofs.Math.Path.{ap}
use Rattle.calls.specs.declared.Refusal.{Refusal}
use Rattle.calls.specs.Answers.{Answer, number_of, refusal_of, index_of, value_or}
use Rattle.calls.specs.Calls.{After, after}
use Rattle.line_file_spec.specs.declared.Header.{Header}
use Rattle.line_file_spec.specs.Opening.{header_of, open_refusal}
use Rattle.line_file_spec.proofs.OpeningLaws.{open_refusal_done, open_refusal_is}
use Rattle.line_file_spec.specs.Reading.{read_refusal, start_of, read_part}
use Rattle.line_file_spec.proofs.ReadingLaws.{stretch_refused, handed_length, stretch_done}
use Rattle.capi.specs.declared.Outcome.{Outcome}
use Rattle.capi.specs.declared.Line.{Line}
use Rattle.capi.specs.Outcomes.{outcome, outcome_of, line_of, outcome_in, stretch_of}
use Rattle.capi.specs.Exports.{exported, in_numbers}

pub outcome_is : (a : Answer) (refused r v i : ℕ) → r ≡ refusal_of a → v ≡ value_or a refused → i ≡ index_of a
    → outcome r v i ≡ outcome_of a refused
outcome_is a refused r v i e f g = rw (e, f, g)

pub exported_is : {B : Type 0} (a : Answer) (o : Outcome) (refused : ℕ) → o ≡ outcome_of a refused → (x : After B) (w : B) → after a w ≡ x
    → exported o w ≡ in_numbers refused x
unfolding in_numbers
exported_is a o refused e x w g = ap (λ q. exported q w) e ∙ ap (in_numbers refused) g

-- ---- opening a line file: n is the number that the companion gave

-- The header's numbers, or zeros in a refusal, beside it.
abbrev pub line_with : ℕ → Result Header Refusal → Line
line_with n (Ok h) = record { refusal = n; superframes = h.superframes; overhead = h.overhead; frames = h.frames }
line_with n (Err r) = record { refusal = n; superframes = 0; overhead = 0; frames = 0 }

pub line_is : (file : List ℕ) (h : Result Header Refusal) (n : ℕ) → h ≡ header_of file → n ≡ open_refusal file
    → line_with n h ≡ line_of (header_of file)
line_is file (Ok x) n e d = ap (λ m. line_with m (Ok x)) (d ∙ sym (open_refusal_done file (Ok x) e x refl)) ∙ ap line_of e
line_is file (Err r) n e d = ap (λ m. line_with m (Err r)) (d ∙ sym (open_refusal_is file (Err r) e r refl)) ∙ ap line_of e

module _ (file : List ℕ) (h : Result Header Refusal) (is : h ≡ header_of file) where
  pub line_done : (x : Header) → h ≡ Ok x
      → ◌≡◌ {A = Line} (record { refusal = 0; superframes = x.superframes; overhead = x.overhead; frames = x.frames }) (line_of (header_of file))
  line_done x e = ap line_of (sym e ∙ is)

  pub line_refused : (r : Refusal) → h ≡ Err r
      → ◌≡◌ {A = Line} (record { refusal = number_of r; superframes = 0; overhead = 0; frames = 0 }) (line_of (header_of file))
  line_refused r e = ap line_of (sym e ∙ is)

  -- A refused opening, as the companion tells it.
  pub line_told : (r : Refusal) → h ≡ Err r → (n : ℕ) → n ≡ open_refusal file
      → ◌≡◌ {A = Line} (record { refusal = n; superframes = 0; overhead = 0; frames = 0 }) (line_of (header_of file))
  line_told r e n d = ap (line_with n) (sym e) ∙ line_is file h n is d

pub ruleset lines = (line_done, line_refused, line_told)

-- ---- reading a line file: m is the number that the companion gave

module _ (file : List ℕ) (n o f q s m : ℕ) (is : m ≡ read_refusal file n o f q s) where
  pub reading_refused : (m ≡ 0 → ⊥) → outcome m 0 0 ≡ stretch_of (read_refusal file n o f q s) f q s
  unfolding stretch_of
  reading_refused h = ap outcome_in (stretch_refused file n o f q s m is h)

  module _ (part : List ℕ) (none : m ≡ 0) (handed : part ≡ read_part file n o f q s) where
    pub reading_fits : length part < 2 ^ 32
    reading_fits = omega (arith, handed_length file n o f q s m is part none handed)

    pub reading_done : (i : ℕ) → i ≡ start_of f q s → outcome 0 (length part) i ≡ stretch_of (read_refusal file n o f q s) f q s
    unfolding stretch_of
    reading_done i e = ap outcome_in (stretch_done file n o f q s m is part none handed i e)

pub ruleset readings = (reading_refused, reading_fits, reading_done)
