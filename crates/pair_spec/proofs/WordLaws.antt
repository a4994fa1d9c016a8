-- One word: sent is c, the line delivered y, and the repairer is handed x, which is right wherever y is and has at most three wrong
-- bits. What follows of its repair, by the laws of the code.
-- Assumes nothing.
use Rattle.std.specs.Prelude.{◌≡◌, refl, Bool, ◌⊎◌, ℕ, ◌<◌, ◌≤◌}
use Rattle.std.proofs.Common.{sym, ◌∙◌, inl, inr, arith}
use Rattle.bits.specs.Count.{distance}
use Rattle.bits.proofs.CountLaws.{distance_mono, distance_triangle, distance_sym, distance_ext}
use Rattle.word_spec.specs.CodeWord.{Word, CodeWord}
use Rattle.word_spec.proofs.Distance.{code_distance}
use Rattle.word_spec.specs.Marks.{not_lost, lost, mark_meaning}
use Rattle.word_spec.specs.Repair.{repair, repaired, mark}
use Rattle.word_spec.proofs.RepairLaws.{Bits, FrontKept, mark_says, not_both, not_lost_le, lost_unaltered}
use Rattle.word_spec.proofs.RepairTheorems.{repair_found, repair_lost}
use Rattle.word_spec.specs.declared.Repair.{Repair}

pub record WordOutcome (c y x : Word) (r : Repair) : Type 0 where
  pub right : (k : ℕ) → k < 256 → y k ≡ c k → repaired r x k ≡ c k
  pub whole : mark_meaning (mark r) ≡ not_lost → (k : ℕ) → k < 256 → repaired r x k ≡ c k
  pub flips : mark_meaning (mark r) ≡ not_lost → mark r ≡ distance 256 x c
  pub two_not_lost : distance 256 y c ≤ 2 → mark_meaning (mark r) ≡ not_lost

pub word_outcome_of : (front : Bool) (c y x : Word) → CodeWord c → Bits x → FrontKept front x c
    → ((k : ℕ) → k < 256 → y k ≡ c k → x k ≡ c k)
    → distance 256 y c ≤ 3 → WordOutcome c y x (repair front x)
word_outcome_of front c y x code bits kept near three = go (mark_says r)
  where
    r : Repair
    r = repair front x

    close : distance 256 x c ≤ distance 256 y c
    close = distance_mono 256 x c y c near

    -- A repair that is not lost is within five places of the sent word, so it is the sent word.
    same : mark_meaning (mark (repair front x)) ≡ not_lost → (k : ℕ) → k < 256 → repaired (repair front x) x k ≡ c k
    same n =
        let f = repair_found front x bits n in
        let d = repaired (repair front x) x in
        code_distance d c f.0 code
        (omega (arith, f.1, not_lost_le (mark (repair front x)) n, close, distance_triangle 256 d x c, distance_sym 256 d x))

    go : (mark_meaning (mark (repair front x)) ≡ not_lost) ⊎ (mark_meaning (mark (repair front x)) ≡ lost) → WordOutcome c y x (repair front x)
    go (inr l) =
        record {
          right = λ k m e. lost_unaltered (repair front x) l x k ∙ near k m e;
          whole = λ n k m. absurd (not_both (mark (repair front x)) n l);
          flips = λ n. absurd (not_both (mark (repair front x)) n l);
          two_not_lost = λ two. absurd (omega (arith, close, repair_lost front x bits l c code kept));
        }
    go (inl n) =
        record {
          right = λ k l e. same n k l;
          whole = λ m k l. same n k l;
          flips = λ m. sym (repair_found front x bits n).1 ∙ distance_ext 256 x (repaired (repair front x) x) x c (λ k l. refl) (same n);
          two_not_lost = λ two. n;
        }
