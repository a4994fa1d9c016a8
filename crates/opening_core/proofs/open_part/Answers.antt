-- `opening_core::open_part` meets its contract: the whole or nothing.
use Rattle.std.proofs.Common.{rules}
use Rattle.line_file_spec.proofs.OpeningLaws.{open_parts}
use Rattle.opening_core.proofs.open_part.Goals as goal

pub returns-in-Ok : goal.returns-in-Ok
returns-in-Ok c = search (rules, open_parts)

pub returns-in-Err : goal.returns-in-Err
returns-in-Err c = search (rules, open_parts)
