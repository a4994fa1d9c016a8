-- `line_file_core::reading::stretch` meets its contract: the part has 7,424 bytes.
use Rattle.std.proofs.Common.{rules}
use Rattle.line_file_spec.proofs.ReadingLaws.{from_there}
use Rattle.line_file_core.proofs.reading.stretch.Goals as goal

pub returns : goal.returns
returns c = search (rules, from_there)
