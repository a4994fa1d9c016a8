-- `payload_core::row_of_halves` meets its contract: number by number.
use Rattle.std.proofs.Common.{rules}
use Rattle.bits.proofs.FromFn.{from_fn_is}
use Rattle.payload_core.specs.RowBytes.{row_of_halves}
use Rattle.payload_core.proofs.row_of_halves.Goals as goal

pub returns : goal.returns
unfolding row_of_halves
returns c = from_fn_is _ (λ n y q l e. search rules) c.from_fn.ensures.items
