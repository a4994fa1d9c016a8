-- Laws of calls: the tests one by one, what a refused call leaves, what an accepted one is.
-- Assumes nothing.
use Rattle.std.specs.Prelude.{◌≡◌, Bool, true, false, cond, ◌||◌, List, [], ◌∷◌, ◌++◌, ◌≢◌, ℕ, ◌<◌, ◌≤◌, ltb, length}
use Rattle.std.proofs.Math.Path.{refl, sym, ap}
use Rattle.std.proofs.Common.{◌∙◌, true≢false}
use borrow.Author.Tests.{eq-eqb, ne_eqb, lt-ltb, le-ltb, le-leb, lt-leb, eqb-true, eqb-false, ltb-false, leb-false, not-false}
use Rattle.calls.specs.declared.Refusal.{Refusal}
use Rattle.calls.specs.declared.Refusal.TheVariants.{Misfit, BadHeader, CountSpent, NoSuchFrame, OffGrid, StrayHistory}
use Rattle.calls.specs.Answers.{Answer}
use Rattle.std.specs.Prelude.{Ok, Err}
use Rattle.calls.specs.Answers.{refusal_of, Accepted, TurnedBack}
use Rattle.calls.proofs.AnswerLaws.{refused_turned}
use Rattle.calls.specs.Calls.{After, after, Test, misfit, short_file, bad_header, count_spent, no_sub_frame, no_super_frame, off_grid, stray_history}
use Rattle.calls.specs.Calls.{verdict, ends, call}

-- ---- the answer, test by test

module _ (t : Test) (ts : List Test) where
  pub test_refuses : t.refuses ≡ true → Err t.refusal ≡ verdict (t ∷ ts)
  unfolding verdict
  test_refuses e = simp e

  pub test_passes : (a : Answer) → t.refuses ≡ false → a ≡ verdict ts → a ≡ verdict (t ∷ ts)
  unfolding verdict
  test_passes a e f = f ∙ simp e

-- Whether a history is stray, as code finds it: by the encoder x in its front, by the pair number y there, and then by whether the
-- encoder is above 1.
module _ (e' P' e P x : ℕ) (ex : x ≡ e') where
  pub stray_encoder : x ≢ e → true ≡ (stray_history e' P' e P).refuses
  unfolding stray_history
  stray_encoder h = rw (sym ex) (sym (simp (ne_eqb _ _ h)))

  module _ (same : x ≡ e) (y : ℕ) (ey : y ≡ P') where
    pub stray_pair : y ≢ P → true ≡ (stray_history e' P' e P).refuses
    unfolding stray_history
    stray_pair h = rw (sym ex, sym ey) (sym (simp (eq-eqb _ _ same, ne_eqb _ _ h)))

    pub stray_above : y ≡ P → ltb 1 e ≡ (stray_history e' P' e P).refuses
    unfolding stray_history
    stray_above h = rw (sym ex, sym ey) (sym (simp (eq-eqb _ _ same, eq-eqb _ _ h)))

pub ruleset stray_cases = (stray_encoder, stray_pair, stray_above)

-- What the front of a history shows that is not stray.
pub record Own (e' P' e P : ℕ) : Type 0 where
  pub encoder : e' ≡ e
  pub pair : P' ≡ P
  pub known : e ≤ 1

own_passes : (e' P' e P : ℕ) → Own e' P' e P → (stray_history e' P' e P).refuses ≡ false
unfolding stray_history
own_passes e' P' e P o = simp (eq-eqb _ _ o.encoder, eq-eqb _ _ o.pair, le-ltb _ _ o.known)

either_false : (s t : Bool) → (s || t) ≡ false → (s ≡ false) × (t ≡ false)
either_false true t h = absurd (true≢false h)
either_false false t h = (refl, h)

pub own_told : (e' P' e P : ℕ) → (stray_history e' P' e P).refuses ≡ false → Own e' P' e P
unfolding stray_history
own_told e' P' e P h =
    let r = either_false _ _ h in
    let s = either_false _ _ r.0 in
    record { encoder = eqb-true _ _ (not-false _ s.0); pair = eqb-true _ _ (not-false _ s.1); known = ltb-false _ _ r.1 }

-- Where b says whether the history is stray.
pub own_found : (e' P' e P : ℕ) (b : Bool) → b ≡ (stray_history e' P' e P).refuses → b ≡ false → Own e' P' e P
own_found e' P' e P b is h = own_told e' P' e P (sym is ∙ h)

pub none_left : Ok 0 ≡ verdict []
unfolding verdict
none_left = refl

-- The tests of the table: what refuses, and what passes.
module _ (ts : List Test) where
  module _ (s : List ℕ) (n : ℕ) where
    pub is_misfit : length s ≢ n → Err Misfit ≡ verdict (misfit s n ∷ ts)
    unfolding misfit
    is_misfit h = test_refuses (misfit s n) ts (simp (ne_eqb _ _ h))

    pub no_misfit : (a : Answer) → length s ≡ n → a ≡ verdict ts → a ≡ verdict (misfit s n ∷ ts)
    unfolding misfit
    no_misfit a h = test_passes (misfit s n) ts a (simp (eq-eqb _ _ h))

    -- Where the code compares with m, which is n.
    module _ (m : ℕ) (e : m ≡ n) where
      pub is_misfit_of : length s ≢ m → Err Misfit ≡ verdict (misfit s n ∷ ts)
      is_misfit_of h = is_misfit (λ f. h (f ∙ sym e))

      pub no_misfit_of : (a : Answer) → length s ≡ m → a ≡ verdict ts → a ≡ verdict (misfit s n ∷ ts)
      no_misfit_of a h = no_misfit a (h ∙ e)

      pub fits_of : length s ≡ m → length s ≡ n
      fits_of h = h ∙ e

  module _ (size : ℕ) where
    pub is_short_file : size < 16 → Err Misfit ≡ verdict (short_file size ∷ ts)
    unfolding short_file
    is_short_file h = test_refuses (short_file size) ts (lt-ltb _ _ h)

    pub no_short_file : (a : Answer) → 16 ≤ size → a ≡ verdict ts → a ≡ verdict (short_file size ∷ ts)
    unfolding short_file
    no_short_file a h = test_passes (short_file size) ts a (le-ltb _ _ h)

  module _ (holds : Bool) where
    pub is_bad_header : holds ≡ false → Err BadHeader ≡ verdict (bad_header holds ∷ ts)
    unfolding bad_header
    is_bad_header h = test_refuses (bad_header holds) ts (simp h)

    pub no_bad_header : (a : Answer) → holds ≡ true → a ≡ verdict ts → a ≡ verdict (bad_header holds ∷ ts)
    unfolding bad_header
    no_bad_header a h = test_passes (bad_header holds) ts a (simp h)

  module _ (P : ℕ) where
    pub is_spent : P ≡ 4294967295 → Err CountSpent ≡ verdict (count_spent P ∷ ts)
    unfolding count_spent
    is_spent h = test_refuses (count_spent P) ts (eq-eqb _ _ h)

    pub not_spent : (a : Answer) → P ≢ 4294967295 → a ≡ verdict ts → a ≡ verdict (count_spent P ∷ ts)
    unfolding count_spent
    not_spent a h = test_passes (count_spent P) ts a (ne_eqb _ _ h)

  module _ (s : ℕ) where
    pub no_sub_frame_lem : 47 < s → Err NoSuchFrame ≡ verdict (no_sub_frame s ∷ ts)
    unfolding no_sub_frame
    no_sub_frame_lem h = test_refuses (no_sub_frame s) ts (lt-ltb _ _ h)

    pub sub_frame_lem : (a : Answer) → s ≤ 47 → a ≡ verdict ts → a ≡ verdict (no_sub_frame s ∷ ts)
    unfolding no_sub_frame
    sub_frame_lem a h = test_passes (no_sub_frame s) ts a (le-ltb _ _ h)

  module _ (q n : ℕ) where
    pub no_super_frame_lem : n ≤ q → Err NoSuchFrame ≡ verdict (no_super_frame q n ∷ ts)
    unfolding no_super_frame
    no_super_frame_lem h = test_refuses (no_super_frame q n) ts (le-leb _ _ h)

    pub super_frame : (a : Answer) → q < n → a ≡ verdict ts → a ≡ verdict (no_super_frame q n ∷ ts)
    unfolding no_super_frame
    super_frame a h = test_passes (no_super_frame q n) ts a (lt-leb _ _ h)

  module _ (index at n : ℕ) where
    pub is_off_grid : (i : ℕ) → i ≡ index → at < n → Err (OffGrid i) ≡ verdict (off_grid index at n ∷ ts)
    unfolding off_grid
    is_off_grid i e h = ap (λ j. Err (OffGrid j)) e ∙ test_refuses (off_grid index at n) ts (lt-ltb _ _ h)

    pub on_grid : (a : Answer) → n ≤ at → a ≡ verdict ts → a ≡ verdict (off_grid index at n ∷ ts)
    unfolding off_grid
    on_grid a h = test_passes (off_grid index at n) ts a (le-ltb _ _ h)

  module _ (e' P' e P : ℕ) where
    pub is_stray : (b : Bool) → b ≡ (stray_history e' P' e P).refuses → b ≡ true → Err StrayHistory ≡ verdict (stray_history e' P' e P ∷ ts)
    unfolding stray_history
    is_stray b is h = test_refuses (stray_history e' P' e P) ts (sym is ∙ h)

    pub own : (a : Answer) → Own e' P' e P → a ≡ verdict ts → a ≡ verdict (stray_history e' P' e P ∷ ts)
    unfolding stray_history
    own a o = test_passes (stray_history e' P' e P) ts a (own_passes e' P' e P o)

-- What is made of a test's outcome is made of each of the two.
pub by_test : {A B : Type 0} (f : A → B) (t : Bool) (x y : A) → f (cond t x y) ≡ cond t (f x) (f y)
by_test f true x y = refl
by_test f false x y = refl

-- Tests of which the first are made apart, with answer a: a refusal stands, and where there is none the others decide.
abbrev and_then : Answer → Answer → Answer
and_then (Ok v) next = next
and_then (Err r) next = Err r

verdict_append : (ts us : List Test) → verdict (ts ++ us) ≡ and_then (verdict ts) (verdict us)
unfolding verdict
verdict_append [] us = refl
verdict_append (t ∷ ts) us =
    ap (cond t.refuses (Err t.refusal)) (verdict_append ts us) ∙ sym (by_test (λ a. and_then a (verdict us)) t.refuses _ _)

module _ (ts us : List Test) (a : Answer) (e : a ≡ verdict ts) where
  pub first_refused : (r : Refusal) → a ≡ Err r → Err r ≡ verdict (ts ++ us)
  first_refused r f = sym (verdict_append ts us ∙ ap (λ x. and_then x (verdict us)) (sym e ∙ f))

  pub first_passed : (v : ℕ) (b : Answer) → a ≡ Ok v → b ≡ verdict us → b ≡ verdict (ts ++ us)
  first_passed v b f g = g ∙ sym (verdict_append ts us ∙ ap (λ x. and_then x (verdict us)) (sym e ∙ f))

-- ---- the call

module _ {B : Type 0} (ts : List Test) (lent : B) (done : After B) where
  pub call_refused : (r : Refusal) → Err r ≡ verdict ts → after (Err r) lent ≡ call ts lent done
  unfolding call
  call_refused r e = ap (λ a. ends a lent done) e

  pub call_done : (x : After B) → Ok 0 ≡ verdict ts → x ≡ done → x ≡ call ts lent done
  unfolding call
  call_done x e f = f ∙ ap (λ a. ends a lent done) e

pub ruleset tests = (
  none_left,
  is_misfit,
  no_misfit,
  is_short_file,
  no_short_file,
  is_bad_header,
  no_bad_header,
  is_spent,
  not_spent,
  no_sub_frame_lem,
  sub_frame_lem,
  no_super_frame_lem,
  super_frame,
  is_off_grid,
  on_grid,
  own,
  first_refused,
  first_passed,
)

pub ruleset misfit_of = (is_misfit_of, no_misfit_of, fits_of)

pub ruleset stray_of = (is_stray, own_found)

pub ruleset cases = (tests, call_refused, call_done)

-- ---- accepted and refused calls

-- No test refuses.
abbrev pub Passed : List Test → Type 0
Passed [] = Unit {0}
Passed (t ∷ ts) = (t.refuses ≡ false) × Passed ts

pub passed_all : (ts : List Test) (v : ℕ) → verdict ts ≡ Ok v → Passed ts
unfolding verdict
passed_all [] v e = tt
passed_all (t ∷ ts) v e = go t.refuses refl (passed_all ts v)
  where
    go : (b : Bool) → t.refuses ≡ b → (verdict ts ≡ Ok v → Passed ts) → Passed (t ∷ ts)
    go true p rest = absurd (refused_turned t.refusal (ap refusal_of (test_refuses t ts p ∙ e)))
    go false p rest = (p, rest (test_passes t ts (verdict ts) p refl ∙ e))

-- What a test that passed tells.
pub fits : (s : List ℕ) (n : ℕ) → (misfit s n).refuses ≡ false → length s ≡ n
unfolding misfit
fits s n e = eqb-true _ _ (not-false _ e)

pub long_file : (size : ℕ) → (short_file size).refuses ≡ false → 16 ≤ size
unfolding short_file
long_file size e = ltb-false _ _ e

pub rules_kept : (holds : Bool) → (bad_header holds).refuses ≡ false → holds ≡ true
unfolding bad_header
rules_kept holds e = not-false _ e

pub unspent : (P : ℕ) → (count_spent P).refuses ≡ false → P ≢ 4294967295
unfolding count_spent
unspent P e = eqb-false _ _ e

pub has_sub_frame : (s : ℕ) → (no_sub_frame s).refuses ≡ false → s ≤ 47
unfolding no_sub_frame
has_sub_frame s e = ltb-false _ _ e

pub has_super_frame : (q n : ℕ) → (no_super_frame q n).refuses ≡ false → q < n
unfolding no_super_frame
has_super_frame q n e = leb-false _ _ e

pub ruleset told = (fits, long_file, rules_kept, unspent, has_sub_frame, has_super_frame, own_told)

module _ {B : Type 0} (ts : List Test) (lent : B) (done : After B) where
  -- An accepted call passed every test, and is done.
  pub call_accepted : Accepted (call ts lent done).answer → Passed ts × (call ts lent done ≡ done)
  unfolding call
  call_accepted ok = go (verdict ts) refl
    where
      go : (a : Answer) → verdict ts ≡ a → Passed ts × (call ts lent done ≡ done)
      go (Ok v) e = (passed_all ts v e, ap (λ x. ends x lent done) e)
      go (Err r) e = absurd (refused_turned r (sym (ap (λ x. refusal_of (ends x lent done).answer) e) ∙ ok))

  -- A refused call leaves what it may write as it was lent.
  pub call_keeps : Accepted done.answer → TurnedBack (call ts lent done).answer → (call ts lent done).written ≡ lent
  unfolding call
  call_keeps ok bad = go (verdict ts) refl
    where
      go : (a : Answer) → verdict ts ≡ a → (call ts lent done).written ≡ lent
      go (Ok v) e = absurd (bad (ap (λ x. refusal_of (ends x lent done).answer) e ∙ ok))
      go (Err r) e = ap (λ x. (ends x lent done).written) e
