-- `gathering_core::lanes::levels` meets its contract: level after level.
use Rattle.gathering_core.specs.Lanes.{levelled}
use Rattle.gathering_core.proofs.lanes.levels.Goals as goal

pub returns : goal.returns
returns c = levelled _ _ _ _ _ _ c.join_rows-eight.ensures c.by_four-four.ensures c.by_two-two.ensures c.lane_16.ensures
