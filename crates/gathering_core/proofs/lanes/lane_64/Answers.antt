-- `gathering_core::lanes::lane_64` meets its contract.
use Rattle.std.proofs.Common.{arith}
use Rattle.gathering_core.specs.Lanes.{lane_made, added_made, made64}
use Rattle.gathering_core.proofs.lanes.lane_64.Goals as goal

pub returns : goal.returns
returns c =
    made64 _ _ _ _ _ _ (lane_made _ _ _ c.lane-f.ensures) (lane_made _ _ _ c.lane-b.ensures) c.up64-s.ensures (added_made _ _ _ (omega (arith, c.added.type_inv)) c.added.ensures)
