-- `cells_core::legal::first_illegal` meets its contract.
use Rattle.std.proofs.Common.{rules}
use Rattle.cells_spec.specs.Cells.{overhead_rule}
use Rattle.cells_core.proofs.legal.first_illegal.Goals as goal

pub returns : goal.returns
unfolding overhead_rule
returns c = c.first_reaching.ensures (λ v. v) (λ v r k. search rules)
