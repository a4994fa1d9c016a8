-- `gathering_core::lanes::lane_16` meets its contract.
use Rattle.std.proofs.Common.{rules, arith, ◌%◌, ◌/◌}
use Rattle.bits.proofs.Mapped.{map_is}
use Rattle.gathering_spec.specs.Sums.{lower_halves, upper_halves}
use Rattle.gathering_core.specs.Lanes.{added_made, made16}
use Rattle.gathering_core.proofs.lanes.lane_16.Goals as goal

pub returns : goal.returns
unfolding lower_halves upper_halves
returns c =
    made16 _ _ _ _ _ (map_is (λ x. x % 4294967296) 0 (λ x y q e. search rules) c.map-lower.ensures.items)
    (map_is (λ x. x / 4294967296) 0 (λ x y q e. search rules) c.map-upper.ensures.items) c.up16-s.ensures
    (added_made _ _ _ (omega (arith, c.added.type_inv)) c.added.ensures)
