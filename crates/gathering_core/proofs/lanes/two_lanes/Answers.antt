-- `gathering_core::lanes::two_lanes` meets its contract: number by number.
use Rattle.std.proofs.Common.{rules}
use Rattle.bits.proofs.FromFn.{from_fn_is}
use Rattle.gathering_spec.specs.Sums.{paired_number, paired_lanes}
use Rattle.gathering_core.proofs.lanes.two_lanes.Goals as goal

pub returns : goal.returns
unfolding paired_lanes paired_number
returns c = from_fn_is _ (λ i y q l e. search rules) c.from_fn.ensures.items
