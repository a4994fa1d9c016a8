-- Laws of results: what is made of a chain of tests, test by test.
-- Assumes nothing.
use Rattle.std.specs.Prelude.{◌≡◌, refl, Bool, true, false, cond, not, ◌||◌, List, [], ◌∷◌, ℕ}
use Rattle.std.proofs.Common.{◌∙◌}
use Rattle.calls.specs.declared.Refusal.{Refusal}
use Rattle.std.specs.Prelude.{Ok, Err}
use Rattle.calls.specs.Answers.{number_of, place_of}
use Rattle.calls.specs.Answers.{Answer}
use Rattle.calls.specs.Results.{Result, result, result_of}
use Rattle.calls.specs.Calls.{After, Test, verdict, ends, call}
use Rattle.calls.proofs.CallLaws.{by_test}

pub result_done : (lent v : ℕ) → result_of lent (Ok v) ≡ result 0 v 0
unfolding result_of
result_done lent v = refl

pub result_refused : (lent : ℕ) (r : Refusal) → result_of lent (Err r) ≡ result (number_of r) lent (place_of r)
unfolding result_of
result_refused lent r = refl

-- Two tests with one refusal are one test,
pub either_test : {A : Type 0} (s t : Bool) (x y : A) → cond (s || t) x y ≡ cond s x (cond t x y)
either_test true t x y = refl
either_test false t x y = refl

-- and a test that must pass refuses where it does not.
pub not_test : {A : Type 0} (t : Bool) (x y : A) → cond (not t) x y ≡ cond t y x
not_test true x y = refl
not_test false x y = refl

pub ruleset results = (result_done, result_refused, either_test, not_test)

-- The result of a call: that of the first test that refuses, or of what it does.
abbrev pub first_result : ℕ → List Test → Result → Result
first_result lent [] r = r
first_result lent (t ∷ ts) r = cond t.refuses (result (number_of t.refusal) lent (place_of t.refusal)) (first_result lent ts r)

pub call_result : {B : Type 0} (n : ℕ) (ts : List Test) (lent : B) (done : After B)
    → result_of n (call ts lent done).answer ≡ first_result n ts (result_of n done.answer)
unfolding call verdict
call_result n [] lent done = refl
call_result n (t ∷ ts) lent done =
    by_test (λ (a : Answer). result_of n (ends a lent done).answer) t.refuses _ _ ∙ simp (result_refused, call_result n ts lent done)

pub verdict_result : (n : ℕ) (ts : List Test) → result_of n (verdict ts) ≡ first_result n ts (result 0 0 0)
unfolding verdict
verdict_result n [] = result_done n 0
verdict_result n (t ∷ ts) = by_test (result_of n) t.refuses _ _ ∙ simp (result_refused, verdict_result n ts)
