-- `receiving_core::checks::gather` meets its contract.
use Rattle.std.proofs.Common.{rules}
use Rattle.syndromes_core.specs.RowCheckLaws.{gathered_levels, parities_levels}
use Rattle.receiving_core.proofs.checks.gather.Goals as goal

pub returns : goal.returns
returns c = search (rules, gathered_levels, parities_levels)
