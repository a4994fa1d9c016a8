-- Lists of calls made one after the other, and refused calls put among them.
-- Assumes nothing.
use Rattle.std.specs.Prelude.{List, [], ◌∷◌, ◌≢◌, ℕ, zero, suc}
use Rattle.calls.specs.Sequences.{Kind}

module _ (K : Kind) where
  -- The second list is the first with refused calls put in anywhere: before, between and after.
  pub data Among : List K.Call → List K.Call → Type 0 where
    none : Among [] []
    same : {c : K.Call} {cs ds : List K.Call} → Among cs ds → Among (c ∷ cs) (c ∷ ds)
    more : {c : K.Call} {cs ds : List K.Call} → K.number c ≢ 0 → Among cs ds → Among cs (c ∷ ds)

  -- One call before each of a list and after the last.
  unfoldable pub with_refused : K.Call → List K.Call → List K.Call
  with_refused c [] = c ∷ []
  with_refused c (d ∷ ds) = c ∷ d ∷ with_refused c ds

  -- n calls from number i on, each made of its number and of the state that the one before left; and the state after them.
  unfoldable pub one_by_one : (ℕ → K.State → K.Call) → ℕ → ℕ → K.State → List K.Call
  one_by_one make zero i s = []
  one_by_one make (suc n) i s = make i s ∷ one_by_one make n (suc i) (K.left (make i s))

  unfoldable pub state_after : (ℕ → K.State → K.Call) → ℕ → ℕ → K.State → K.State
  state_after make zero i s = s
  state_after make (suc n) i s = state_after make n (suc i) (K.left (make i s))
