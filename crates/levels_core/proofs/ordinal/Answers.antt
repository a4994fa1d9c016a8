-- `levels_core::ordinal` meets its contract.
use Rattle.std.proofs.Common.{rules}
use Rattle.cells_spec.specs.Levels.{ordinal}
use Rattle.cells_spec.proofs.LevelLaws.{by_level}
use Rattle.levels_core.proofs.ordinal.Goals as goal

pub returns : goal.returns
unfolding ordinal
returns c = search (rules, by_level)
