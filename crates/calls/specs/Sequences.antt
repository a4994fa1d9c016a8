-- Lists of calls that hand a state on, refused calls among them. 01, "Whole runs": "Each accepted call gets the history and
-- pair number that the accepted call before it returned, and nobody else writes them meanwhile. Refused calls, whatever they
-- are lent, may stand anywhere in a list and leave both as they were." Since 02, E2, the pair number is part of the history.
-- Assumes nothing.
use Rattle.std.specs.Prelude.{◌≡◌, List, [], ◌∷◌, cond, ◌≢◌, ℕ, suc, eqb}

-- x stands at place i of a list.
pub data At {A : Type 0} : List A → ℕ → A → Type 0 where
  here : {x : A} {xs : List A} → At (x ∷ xs) 0 x
  later : {x y : A} {xs : List A} {i : ℕ} → At xs i x → At (y ∷ xs) (suc i) x

-- What became of a part of the state over a call that is lent some things and leaves them as others, each in its place: it was not lent, or
-- it was lent and is what the call left.
pub data Part {A : Type 0} (lent left : List A) : A → A → Type 0 where
  not_lent : {x : A} → Part lent left x x
  was_lent : {i : ℕ} {x y : A} → At lent i x → At left i y → Part lent left x y

-- A kind of calls: what is lent to one, the state that one hands on to the next, the refusal number, 0 for an accepted call, the state as
-- it is lent to an accepted call and as that call leaves it, and what may become of a state over a refused one, whatever that is lent.
pub record Kind : Type 1 where
  pub Call : Type 0
  pub State : Type 0
  pub number : Call → ℕ
  pub lent : Call → State
  pub left : Call → State
  pub Becomes : Call → State → State → Type 0

module _ (K : Kind) where
  -- A list of calls made while the state goes from the first to the last.
  --   takes    an accepted call is lent the state, and the state is then what it left
  --   refused  a refused call may be lent anything, parts of the state too, and these are then what it left
  pub data Run : K.State → List K.Call → K.State → Type 0 where
    done : {s : K.State} → Run s [] s
    takes : {s t : K.State} {c : K.Call} {cs : List K.Call} → K.number c ≡ 0 → K.lent c ≡ s → Run (K.left c) cs t → Run s (c ∷ cs) t
    refused : {s u t : K.State} {c : K.Call} {cs : List K.Call} → K.number c ≢ 0 → K.Becomes c s u → Run u cs t → Run s (c ∷ cs) t

  -- The accepted calls of a list, in order.
  unfoldable pub accepted : List K.Call → List K.Call
  accepted [] = []
  accepted (c ∷ cs) = cond (eqb (K.number c) 0) (c ∷ accepted cs) (accepted cs)

  -- 02, E2: "the accepted calls are that encoder's pairs 0, 1, 2 and on": each names encoder e, and accepted call P, from 0 on, pair P.
  abbrev pub Numbered : (K.Call → ℕ) → (K.Call → ℕ) → ℕ → List K.Call → Type 0
  Numbered encoder pair e cs = (P : ℕ) (c : K.Call) → At (accepted cs) P c → (encoder c ≡ e) × (pair c ≡ P)

  -- What each kind of calls must show: a refused call leaves the state as it was, and may be lent nothing of it.
  abbrev pub Keeping : Type 0
  Keeping = (c : K.Call) → K.number c ≢ 0 → (s t : K.State) → K.Becomes c s t → t ≡ s

  abbrev pub Separate : Type 0
  Separate = (c : K.Call) (s : K.State) → K.Becomes c s s
