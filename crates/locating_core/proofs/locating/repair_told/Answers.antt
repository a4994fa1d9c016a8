-- `locating::repair_told` meets its contract: what is located and confined.
use Rattle.std.proofs.Common.{rules}
use Rattle.locating_core.proofs.Telling.{confined_inside, located_told}
use Rattle.locating_core.proofs.locating.repair_told.Goals as goal

pub returns : goal.returns
returns c = search (rules, confined_inside, located_told)
