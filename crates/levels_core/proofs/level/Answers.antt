-- `levels_core::level` meets its contract.
use Rattle.cells_spec.proofs.LevelLaws.{level_read}
use Rattle.levels_core.proofs.level.Goals as goal

pub returns : goal.returns
returns c = rw c.from.ensures (level_read c.args.a c.args.b c.requires.0 c.requires.1)
