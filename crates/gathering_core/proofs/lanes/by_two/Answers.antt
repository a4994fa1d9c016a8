-- `gathering_core::lanes::by_two` meets its contract.
use Rattle.std.proofs.Common.{arith}
use Rattle.gathering_core.specs.Lanes.{added_made, made32}
use Rattle.gathering_core.proofs.lanes.by_two.Goals as goal

pub returns : goal.returns
returns c =
    made32 _ _ _ _ _ c.two_lanes-f.ensures c.two_lanes-b.ensures c.up32-s.ensures (added_made _ _ _ (omega (arith, c.added.type_inv)) c.added.ensures)
