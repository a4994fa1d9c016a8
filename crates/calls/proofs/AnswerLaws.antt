-- Laws of answers.
-- Assumes nothing.
use Rattle.std.specs.Prelude.{ℕ, ◌≡◌, refl}
use Rattle.std.proofs.Common.{ap, ◌∙◌, arith}
use Rattle.calls.specs.declared.Refusal.{Refusal}
use Rattle.calls.specs.declared.Refusal.TheVariants.{Misfit, BadHeader, CountSpent, NoSuchFrame, OffGrid, StrayHistory}
use Rattle.calls.specs.Answers.{Answer}
use Rattle.std.specs.Prelude.{Ok, Err}
use Rattle.calls.specs.Answers.{refusal_of, value_or, Accepted, TurnedBack}

-- No refusal has number 0.
pub refused_turned : (r : Refusal) → TurnedBack (Err r)
refused_turned Misfit e = omega arith
refused_turned BadHeader e = omega arith
refused_turned CountSpent e = omega arith
refused_turned NoSuchFrame e = omega arith
refused_turned (OffGrid i) e = omega arith
refused_turned StrayHistory e = omega arith

-- An answer whose number is 0 is done.
pub accepted_done : (a : Answer) → Accepted a → (v : ℕ) × (a ≡ Ok v)
accepted_done (Ok v) e = (v, refl)
accepted_done (Err r) e = absurd (refused_turned r e)

-- The number of an answer that is known to be another.
pub refusal_eq : (a b : Answer) (n : ℕ) → n ≡ refusal_of a → a ≡ b → n ≡ refusal_of b
refusal_eq a b n e f = e ∙ ap refusal_of f

-- A call that was turned back gives the number that was lent.
pub turned_value : (a : Answer) (lent : ℕ) → TurnedBack a → value_or a lent ≡ lent
turned_value (Ok v) lent bad = absurd (bad refl)
turned_value (Err r) lent bad = refl
