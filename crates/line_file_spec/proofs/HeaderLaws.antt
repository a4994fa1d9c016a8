-- Laws of the header.
-- Assumes nothing.
use Rattle.std.specs.Prelude.{◌≡◌, refl, List, Bool, true, false, ℕ, ◌+◌, ◌*◌, ◌^◌, ◌<◌, ◌≤◌, eqb, get_or, take}
use Rattle.std.proofs.Math.Path.{sym, ap}
use Rattle.std.proofs.Common.{◌∙◌, arith, get_or-take}
use borrow.Author.Tests.{le-leb, eq-eqb, leb-true, eqb-true}
use Rattle.bits.proofs.Numbers32Laws.{number_below, number_same}
use Rattle.bits.specs.Tests.{both}
use Rattle.calls.specs.Answers.{Answer}
use Rattle.std.specs.Prelude.{Ok, Err}
use Rattle.calls.specs.declared.Refusal.{Refusal}
use Rattle.calls.specs.declared.Refusal.TheVariants.{Misfit, BadHeader}
use Rattle.calls.specs.Calls.{verdict}
use Rattle.calls.proofs.CallLaws.{none_left, is_short_file, no_short_file, is_bad_header, no_bad_header, passed_all, told}
use Rattle.line_file_spec.specs.Header.{header_number, rules_hold, header_tests, header_when, good, judged}

-- ---- the numbers

-- A header's numbers lie in its first sixteen bytes.
pub number_first : (bytes more : List ℕ) (k : ℕ) → k < 4 → take 16 bytes ≡ take 16 more → header_number bytes k ≡ header_number more k
number_first bytes more k l e = number_same bytes more k (λ i h. same i (omega arith))
  where
    same : (i : ℕ) → i < 16 → get_or bytes i 0 ≡ get_or more i 0
    same i h = sym (get_or-take 16 bytes i 0 h) ∙ ap (λ (x : List ℕ). get_or x i 0) e ∙ get_or-take 16 more i 0 h

-- ---- the rules

-- The numbers of a header keep the rules in a file of so many bytes.
pub record Rules (n o f total size : ℕ) : Type 0 where
  pub one : 1 ≤ n
  pub most : n ≤ 64
  pub after_header : 16 ≤ o
  pub after_list : o + 12288 ≤ f
  pub sum : total ≡ f + 356352 * n
  pub whole : total ≡ size

pub both_true : (a b : Bool) → both a b ≡ true → (a ≡ true) × (b ≡ true)
both_true true b e = (refl, e)
both_true false b e = let z : ◌≡◌ {A = ℕ} 0 1 = cc in absurd (omega arith)

module _ (n o f total size : ℕ) where
  pub rules_true : Rules n o f total size → rules_hold n o f total size ≡ true
  unfolding rules_hold
  rules_true r = simp (le-leb _ _ r.one, le-leb _ _ r.most, le-leb _ _ r.after_header, le-leb _ _ r.after_list, eq-eqb _ _ r.sum, eq-eqb _ _ r.whole)

  pub rules_are : rules_hold n o f total size ≡ true → Rules n o f total size
  unfolding rules_hold
  rules_are e =
      let e1 = both_true _ _ e in
      let e2 = both_true _ _ e1.1 in
      let e3 = both_true _ _ e2.1 in
      let e4 = both_true _ _ e3.1 in
      let e5 = both_true _ _ e4.1 in
      record {
        one = leb-true _ _ e1.0;
        most = leb-true _ _ e2.0;
        after_header = leb-true _ _ e3.0;
        after_list = leb-true _ _ e4.0;
        sum = eqb-true _ _ e5.0;
        whole = eqb-true _ _ e5.1;
      }

  pub rules_false : (Rules n o f total size → ⊥) → rules_hold n o f total size ≡ false
  rules_false h = go (rules_hold n o f total size) refl
    where
      go : (b : Bool) → rules_hold n o f total size ≡ b → b ≡ false
      go true e = absurd (h (rules_are e))
      go false e = refl

  -- Each rule by itself, broken.
  pub too_few : n < 1 → false ≡ rules_hold n o f total size
  too_few h = sym (rules_false (λ r. omega arith))

  pub too_many : 64 < n → false ≡ rules_hold n o f total size
  too_many h = sym (rules_false (λ r. omega arith))

  pub list_early : o < 16 → false ≡ rules_hold n o f total size
  list_early h = sym (rules_false (λ r. omega arith))

  pub frames_early : f < o + 12288 → false ≡ rules_hold n o f total size
  frames_early h = sym (rules_false (λ r. omega arith))

  pub other_sum : (total ≡ f + 356352 * n → ⊥) → false ≡ rules_hold n o f total size
  other_sum h = sym (rules_false (λ r. h r.sum))

  -- Where the others hold, the last rule decides.
  pub last_rule : 1 ≤ n → n ≤ 64 → 16 ≤ o → o + 12288 ≤ f → total ≡ f + 356352 * n → eqb total size ≡ rules_hold n o f total size
  unfolding rules_hold
  last_rule a b c d e = simp (le-leb _ _ a, le-leb _ _ b, le-leb _ _ c, le-leb _ _ d, eq-eqb _ _ e)

pub ruleset one_by_one = (too_few, too_many, list_early, frames_early, other_sum, last_rule)

-- ---- the judgement, case by case

-- The numbers in these bytes keep the rules in a file of so many bytes.
abbrev pub RulesOf : List ℕ → ℕ → Type 0
RulesOf bytes size = Rules (header_number bytes 0) (header_number bytes 1) (header_number bytes 2) (header_number bytes 3) size

-- The header in these bytes is that of a file of so many bytes.
pub record Sound (bytes : List ℕ) (size : ℕ) : Type 0 where
  pub long : 16 ≤ size
  pub rules : RulesOf bytes size
  pub is : judged bytes size ≡ good (header_number bytes 0) (header_number bytes 1) (header_number bytes 2) (header_number bytes 3)

module _ (bytes : List ℕ) (size : ℕ) where
  -- The header by the answer of its tests.
  pub header_is : (a : Answer) → a ≡ verdict (header_tests bytes size)
      → header_when a (header_number bytes 0) (header_number bytes 1) (header_number bytes 2) (header_number bytes 3) ≡ judged bytes size
  unfolding judged
  header_is a e = ap (λ x. header_when x (header_number bytes 0) (header_number bytes 1) (header_number bytes 2) (header_number bytes 3)) e

  pub judged_short : size < 16 → judged bytes size ≡ Err Misfit
  unfolding header_tests
  judged_short l = sym (header_is (Err Misfit) (is_short_file _ size l))

  pub judged_broken : 16 ≤ size → (RulesOf bytes size → ⊥) → judged bytes size ≡ Err BadHeader
  unfolding header_tests
  judged_broken l h = sym (header_is (Err BadHeader) (no_short_file _ size _ l (is_bad_header _ _ (rules_false _ _ _ _ _ h))))

  pub judged_good : 16 ≤ size → RulesOf bytes size → Sound bytes size
  unfolding header_tests
  judged_good l r =
      record {
        long = l;
        rules = r;
        is = sym (header_is (Ok 0) (no_short_file _ size _ l (no_bad_header _ _ _ (rules_true _ _ _ _ _ r) none_left)));
      }

  -- A header that is not refused keeps the rules, and its numbers are those of the bytes.
  pub judged_done : (v : ℕ) → verdict (header_tests bytes size) ≡ Ok v → Sound bytes size
  unfolding header_tests
  judged_done v e =
      let p = passed_all (header_tests bytes size) v e in judged_good (search (told, p)) (rules_are _ _ _ _ _ (search (told, p)))

  -- One that the tests refuse is the refusal.
  pub judged_refused : (r : Refusal) → verdict (header_tests bytes size) ≡ Err r → judged bytes size ≡ Err r
  judged_refused r e = sym (header_is (Err r) (sym e))

  -- The numbers are below 2^32, so a count of the file's bytes may stop there: a longer file is refused whatever follows.
  pub judged_long : ((i : ℕ) → get_or bytes i 0 < 256) → 2 ^ 32 ≤ size → judged bytes size ≡ Err BadHeader
  judged_long small l = judged_broken (omega arith) (λ r. omega (arith, number_below bytes 3 small, r.whole))

  -- The same as a worker meets them: it has the numbers, and whether the rules hold.
  pub case_short : size < 16 → Err Misfit ≡ judged bytes size
  case_short l = sym (judged_short l)

  module _ (n o f total : ℕ) (hold : Bool) (en : n ≡ header_number bytes 0) (eo : o ≡ header_number bytes 1) (ef : f ≡ header_number bytes 2) (et : total ≡ header_number bytes 3)
      (e : hold ≡ rules_hold n o f total size) (l : 16 ≤ size) where
    pub case_good : hold ≡ true → good n o f total ≡ judged bytes size
    unfolding header_tests
    case_good t =
        rw (en, eo, ef, et)
        (header_is (Ok 0) (no_short_file _ size _ l (no_bad_header _ _ _ (rw (en, eo, ef, et) at (sym e ∙ t)) none_left)))

    pub case_broken : hold ≡ false → Err BadHeader ≡ judged bytes size
    unfolding header_tests
    case_broken t =
        header_is (Err BadHeader) (no_short_file _ size _ l (is_bad_header _ _ (rw (en, eo, ef, et) at (sym e ∙ t))))

pub ruleset header_cases = (case_short, case_good, case_broken)
