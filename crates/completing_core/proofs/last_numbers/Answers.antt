-- `completing_core::last_numbers` meets its contract: word by word.
use Rattle.std.proofs.Common.{rules}
use Rattle.bits.proofs.FromFn.{from_fn_is}
use Rattle.completing_core.specs.Completing.{last_number}
use Rattle.completing_core.proofs.last_numbers.Goals as goal

pub returns : goal.returns
unfolding last_number
returns c = from_fn_is _ (λ r y q l e. search rules) c.from_fn.ensures.items
