-- `levels_core::bit_pair` meets its contract.
use Rattle.cells_spec.proofs.LevelLaws.{bit_pair_read}
use Rattle.levels_core.proofs.bit_pair.Goals as goal

pub returns : goal.returns
returns c = rw c.from.ensures (bit_pair_read c.args.k c.requires)
