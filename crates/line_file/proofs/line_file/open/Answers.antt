-- `line_file::line_file::open` meets its contract: the open file by its header.
use Rattle.std.proofs.Common.{rules}
use Rattle.line_file_spec.proofs.OpeningLaws.{openings}
use Rattle.line_file.proofs.line_file.open.Goals as goal

pub returns-in-Ok : goal.returns-in-Ok
returns-in-Ok c = search (rules, openings)

pub returns-in-Err : goal.returns-in-Err
returns-in-Err c = search (rules, openings)
