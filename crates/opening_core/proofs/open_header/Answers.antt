-- `opening_core::open_header` meets its contract: the judgement of the file.
use Rattle.std.proofs.Common.{rules}
use Rattle.line_file_spec.proofs.HeaderLaws.{header_cases}
use Rattle.opening_core.proofs.open_header.Goals as goal

pub returns-then-file-lt16 : goal.returns-then-file-lt16
returns-then-file-lt16 c = search (rules, header_cases)
