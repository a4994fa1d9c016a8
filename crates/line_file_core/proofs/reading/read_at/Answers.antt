-- `line_file_core::reading::read_at` meets its contract: the stretch lies within the file.
use Rattle.std.proofs.Common.{rules}
use Rattle.line_file_spec.proofs.ReadingLaws.{part_cases}
use Rattle.line_file_core.proofs.reading.read_at.Goals as goal

pub stretch-requires : goal.stretch-requires
stretch-requires c = search (rules, part_cases)

pub returns-in-Ok : goal.returns-in-Ok
returns-in-Ok c = search (rules, part_cases)

pub returns-in-Err : goal.returns-in-Err
returns-in-Err c = search (rules, part_cases)
