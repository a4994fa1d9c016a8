-- `completing_core::from_sums` meets its contract.
use Rattle.std.proofs.Common.{rules}
use Rattle.completing_core.specs.CompletingLaws.{numbers_made, own_first}
use Rattle.completing_core.proofs.from_sums.Goals as goal

pub returns : goal.returns
returns c = search (rules, numbers_made, own_first)
