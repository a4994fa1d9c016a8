-- `capi::outcome_of` meets its contract: each number by its own definition.
use Rattle.std.proofs.Common.{rules}
use Rattle.capi.specs.ExportLaws.{outcome_is}
use Rattle.capi.proofs.outcome_of.Goals as goal

pub returns : goal.returns
returns c = search (rules, outcome_is)
