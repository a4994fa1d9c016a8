-- The invariant of a loop that makes steps one after the other: none / more / done.
-- Assumes nothing.
use Rattle.std.specs.Prelude.{◌≡◌, ℕ, zero, suc, ◌+◌, ◌<◌, ◌≤◌, List, refl}
use Rattle.std.proofs.Common.{ap, ◌∙◌}
use Rattle.bits.proofs.Folding.{Folding, fold_none, fold_more, fold_done}
use Rattle.loopback_core.specs.Steps.{each_step}

-- Of n steps from `before` on, k are made.
abbrev pub Stepping : (ℕ → List ℕ → List ℕ) → ℕ → List ℕ → ℕ → List ℕ → Type 0
Stepping step n before = Folding (λ k (s : (ℕ → List ℕ → List ℕ) × List ℕ). each_step k s.0 s.1) (step, before) n

pub step_none : (step : ℕ → List ℕ → List ℕ) (n : ℕ) (d : List ℕ) → Stepping step n d 0 d
unfolding each_step
step_none step n d = fold_none _ (step, d) n d refl

pub step_more : {step : ℕ → List ℕ → List ℕ} {n : ℕ} {before : List ℕ} {k : ℕ} {d : List ℕ} (d' : List ℕ) → Stepping step n before k d
    → k < n → d' ≡ step k d
    → Stepping step n before (k + 1) d'
unfolding each_step
step_more {step} {k = k} d' s l e = fold_more d' s l (e ∙ ap (step k) s.is)

pub step_done : {step : ℕ → List ℕ → List ℕ} {n : ℕ} {before : List ℕ} {k : ℕ} {d : List ℕ} → Stepping step n before k d → n ≤ k
    → d ≡ each_step n step before
step_done = fold_done

pub ruleset stepping = (step_none, step_more, step_done)

-- What every step keeps.
pub each_keeps : (P : List ℕ → Type 0) (step : ℕ → List ℕ → List ℕ) → ((k : ℕ) (d : List ℕ) → P d → P (step k d)) → (n : ℕ) (d : List ℕ)
    → P d → P (each_step n step d)
unfolding each_step
each_keeps P step keeps zero d h = h
each_keeps P step keeps (suc n) d h = keeps n (each_step n step d) (each_keeps P step keeps n d h)
