-- What a closure is asked that is given the parts of a buffer, each with its number, and what it leaves in them.
-- Assumes nothing.
use Rattle.std.specs.Prelude.{◌≡◌, List, ℕ, ◌+◌, ◌*◌, ◌<◌, length}
use denote.Ref.{MutBor}
use denote.Param.Members.{Shared}
use Rattle.bits.specs.Lists.{tabulate}

module _ {F T : Type 0} (g : Shared F (ℕ × (MutBor (List T) × Unit {0})) (Unit {0} × (MutBor (List T) × Unit {0}))) (f : F) (width : ℕ) where
  -- f may be called with each part of `width` values, of n in all, and its number.
  abbrev pub AcceptsParts : ℕ → Type 0
  AcceptsParts n = (k : ℕ) (p : MutBor (List T)) → k * width < n → length p.now ≡ width → g.pre f (k, (p, tt))

  -- Each of these calls leaves h's values in its part.
  abbrev pub FillsParts : ℕ → (ℕ → T) → Type 0
  FillsParts n h =
      (k : ℕ) (p q : MutBor (List T)) → k * width < n → length p.now ≡ width → g.post f (k, (p, tt)) (tt, (q, tt))
      → q.now ≡ tabulate width (λ i. h (k * width + i))
