-- `rows_core::rows::fronts` meets its contract.
use Rattle.std.proofs.Common.{rules}
use Rattle.rows_core.specs.HeldLaws.{held}
use Rattle.rows_core.proofs.rows.fronts.Goals as goal

ruleset kit = (rules, held)

pub returns-then-pair-lt10 : goal.returns-then-pair-lt10
returns-then-pair-lt10 c = search kit

pub returns : goal.returns
returns c = search kit
