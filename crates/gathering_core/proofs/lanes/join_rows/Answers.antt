-- `gathering_core::lanes::join_rows` meets its contract: number by number.
use Rattle.std.proofs.Common.{rules}
use Rattle.bits.proofs.FromFn.{from_fn_is}
use Rattle.gathering_spec.specs.Sums.{joined_number, joined_rows}
use Rattle.gathering_core.proofs.lanes.join_rows.Goals as goal

pub returns : goal.returns
unfolding joined_rows joined_number
returns c = from_fn_is _ (λ i y q l e. search rules) c.from_fn.ensures.items
