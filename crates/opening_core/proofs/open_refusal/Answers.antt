-- `opening_core::open_refusal` meets its contract: the number of the header's refusal.
use Rattle.std.proofs.Common.{rules}
use Rattle.line_file_spec.proofs.OpeningLaws.{open_refusals}
use Rattle.opening_core.proofs.open_refusal.Goals as goal

pub returns-in-Ok : goal.returns-in-Ok
returns-in-Ok c = search (rules, open_refusals)

pub returns-in-Err : goal.returns-in-Err
returns-in-Err c = search (rules, open_refusals)
