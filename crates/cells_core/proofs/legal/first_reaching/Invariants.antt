-- The loop of `cells_core::legal::first_reaching`: no byte that was passed reaches the limit.
use Rattle.std.proofs.Common.{◌≡◌, ℕ, leb}
use Rattle.bits.specs.Seeking.{Seeking}
use Rattle.cells_core.proofs.legal.first_reaching.Given as goal

abbrev pub invariant-loop-i : goal.invariant-loop-i
invariant-loop-i g l = (h : ℕ → ℕ) → ((v r : ℕ) → goal.F-post g l.height v r → r ≡ h v) → Seeking 0 (λ j v. leb l.limit (h v)) l.cells l.i
