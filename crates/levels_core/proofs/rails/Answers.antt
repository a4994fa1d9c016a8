-- `levels_core::rails` meets its contract.
use Rattle.std.proofs.Common.{rules}
use Rattle.cells_spec.proofs.LevelLaws.{rails_is}
use Rattle.levels_core.proofs.rails.Goals as goal

pub returns : goal.returns
returns c = search (rules, rails_is)
