-- `gathering_core::lanes::halves_lane` meets its contract.
use Rattle.std.proofs.Common.{arith}
use Rattle.gathering_core.specs.Lanes.{lane_made, added_made, halves_made}
use Rattle.gathering_core.proofs.lanes.halves_lane.Goals as goal

pub returns : goal.returns
returns c =
    halves_made _ _ _ _ _ _ _ _ (lane_made _ _ _ c.lane-f.ensures) (lane_made _ _ _ c.lane-b.ensures) c.front-s.ensures c.back-t.ensures
    (added_made _ _ _ (omega (arith, c.added.type_inv)) c.added.ensures)
