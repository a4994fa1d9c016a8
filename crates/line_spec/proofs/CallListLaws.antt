-- Laws of such lists: they are runs, refused calls among them do not matter, and each call is made of its number.
-- Assumes nothing.
use Rattle.std.specs.Prelude.{◌≡◌, ◌≢◌, eqb, length}
use Rattle.std.proofs.Math.Path.{refl, ap}
use Rattle.std.proofs.Common.{sym, ◌∙◌}
use Rattle.std.proofs.Math.Bool.{cond}
use mathlib.Core.List.{List, [], ◌∷◌}
use Prim.Native.Nat.{ℕ, zero, suc, ◌+◌, ◌<◌, ◌≤◌}
use native.Mathlib.Omega.{arith}
use Rattle.calls.specs.Sequences.{At, here, later, Kind, Run, done, takes, refused, accepted, Separate}
use Rattle.calls.proofs.SequenceLaws.{At_nil, accepted_yes, accepted_no}
use Rattle.line_spec.specs.CallLists.{Among, none, same, more, with_refused, one_by_one, state_after}

module _ (K : Kind) where
  -- ---- refused calls among the calls of a run

  pub among_run : Separate K → {s t : K.State} {cs ds : List K.Call} → Among K cs ds → Run K s cs t → Run K s ds t
  among_run separate none r = r
  among_run separate {s = s} {t = t} (same {c = c} {cs = cs} {ds = ds} w) (takes ok e r) = takes ok e (among_run separate {s = K.left c} w r)
  among_run separate (same w) (refused bad e r) = refused bad e (among_run separate w r)
  among_run separate {s} (more {c} bad w) r = refused bad (separate c s) (among_run separate w r)

  pub among_accepted : {cs ds : List K.Call} → Among K cs ds → accepted K ds ≡ accepted K cs
  unfolding accepted
  among_accepted none = refl
  among_accepted (same {c} w) = ap (λ (l : List K.Call). cond (eqb (K.number c) 0) (c ∷ l) l) (among_accepted w)
  among_accepted (more {c} {ds = ds} bad w) = accepted_no K c ds bad ∙ among_accepted w

  -- There may be none, and there may be one at every place.
  pub among_none : (cs : List K.Call) → Among K cs cs
  among_none [] = none
  among_none (c ∷ cs) = same (among_none cs)

  pub among_with_refused : (c : K.Call) → K.number c ≢ 0 → (cs : List K.Call) → Among K cs (with_refused K c cs)
  unfolding with_refused
  among_with_refused c bad [] = more bad none
  among_with_refused c bad (d ∷ ds) = more bad (same (among_with_refused c bad ds))

  -- Accepted calls with a refused one before each and after the last.
  pub with_refused_accepted : (c : K.Call) → K.number c ≢ 0 → (cs ds : List K.Call) → accepted K cs ≡ cs
      → ds ≡ with_refused K c cs → ds ≡ with_refused K c (accepted K ds)
  with_refused_accepted c bad cs ds all is =
      is ∙ ap (with_refused K c) (sym (ap (accepted K) is ∙ among_accepted (among_with_refused c bad cs) ∙ all))

  -- ---- calls one after the other

  module _ (make : ℕ → K.State → K.Call) where
    pub length_one_by_one : (n i : ℕ) (s : K.State) → length (one_by_one K make n i s) ≡ n
    unfolding one_by_one
    length_one_by_one zero i s = refl
    length_one_by_one (suc n) i s = ap suc (length_one_by_one n (suc i) (K.left (make i s)))

    first_or_later : (P : ℕ → K.Call → Type 0) (d : K.Call) (ds : List K.Call) → P 0 d
        → ((j : ℕ) (x : K.Call) → At ds j x → P (suc j) x)
        → {j : ℕ} {x : K.Call} → At (d ∷ ds) j x → P j x
    first_or_later P d ds p rest here = p
    first_or_later P d ds p rest (later b) = rest _ _ b

    -- Call number j of the list is made of number i + j.
    pub made_at : (n i : ℕ) (s : K.State) (j : ℕ) (c : K.Call) → At (one_by_one K make n i s) j c → (t : K.State) × (c ≡ make (i + j) t)
    unfolding one_by_one
    made_at zero i s j c a = absurd (At_nil a)
    made_at (suc n) i s j c a =
        first_or_later (λ k x. (t : K.State) × (x ≡ make (i + k) t)) (make i s) (one_by_one K make n (suc i) (K.left (make i s)))
        (s, ap (λ k. make k s) (omega arith))
        (λ k x b. let r = made_at n (suc i) (K.left (make i s)) k x b in (r.0, r.1 ∙ ap (λ l. make l r.0) (omega arith)))
        a

    -- Where each number below a bound gives a call that is lent the state and accepted, and leaves a state that is good for the next, they
    -- are all accepted and make a run.
    module _ (Good : ℕ → K.State → Type 0) (top : ℕ) (accepts : (i : ℕ) (s : K.State) → i < top → Good i s → K.number (make i s) ≡ 0)
        (lends : (i : ℕ) (s : K.State) → K.lent (make i s) ≡ s) (leaves : (i : ℕ) (s : K.State) → i < top → Good i s → Good (suc i) (K.left (make i s))) where
      pub one_by_one_run : (n i : ℕ) (s : K.State) → i + n ≤ top → Good i s → Run K s (one_by_one K make n i s) (state_after K make n i s)
      unfolding one_by_one state_after
      one_by_one_run zero i s l g = done
      one_by_one_run (suc n) i s l g =
          let m : i < top = omega arith in
          takes (accepts i s m g) (lends i s) (one_by_one_run n (suc i) (K.left (make i s)) (omega arith) (leaves i s m g))

      pub one_by_one_accepted : (n i : ℕ) (s : K.State) → i + n ≤ top → Good i s → accepted K (one_by_one K make n i s) ≡ one_by_one K make n i s
      unfolding one_by_one accepted
      one_by_one_accepted zero i s l g = refl
      one_by_one_accepted (suc n) i s l g =
          let m : i < top = omega arith in
          accepted_yes K (make i s) (one_by_one K make n (suc i) (K.left (make i s))) (accepts i s m g)
          ∙ ap (λ (l : List K.Call). make i s ∷ l) (one_by_one_accepted n (suc i) (K.left (make i s)) (omega arith) (leaves i s m g))
