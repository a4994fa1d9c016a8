-- `completing_core::own_numbers` meets its contract: word by word.
use Rattle.std.proofs.Common.{rules}
use Rattle.bits.proofs.FromFn.{from_fn_is}
use Rattle.completing_core.specs.Completing.{own_number}
use Rattle.completing_core.proofs.own_numbers.Goals as goal

pub returns : goal.returns
unfolding own_number
returns c = from_fn_is _ (λ r y q l e. search rules) c.from_fn.ensures.items
