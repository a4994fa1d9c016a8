-- `gathering_core::lanes::by_eight` meets its contract: block by block.
use Rattle.std.proofs.Common.{rules}
use Rattle.blocks.specs.LaidBy.{laid_by_is, laid_all}
use Rattle.gathering_spec.specs.Sums.{halves_lane}
use Rattle.gathering_core.proofs.lanes.by_eight.Goals as goal

pub returns : goal.returns
returns c = laid_all (laid_by_is (halves_lane c.args.x.now c.args.y.now) (λ C b l e. search rules) c.laid_by.ensures)
