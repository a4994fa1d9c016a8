-- `cells_core::legal::first_outer` meets its contract.
use Rattle.std.proofs.Common.{rules, ◌∙◌, ap, length}
use Rattle.cells_spec.specs.Cells.{found}
use Rattle.cells_spec.specs.Highest.{flaw}
use Rattle.cells_spec.proofs.Highest.{first_flaw}
use Rattle.profiles_spec.specs.Profiles.{qpsk}
use Rattle.cells_core.proofs.legal.first_outer.Goals as goal

pub returns : goal.returns
unfolding flaw
returns c = c.first_reaching.ensures (flaw qpsk) (λ v r k. search rules) ∙ ap (found (length c.args.cells.now)) (first_flaw qpsk c.args.cells.now)
