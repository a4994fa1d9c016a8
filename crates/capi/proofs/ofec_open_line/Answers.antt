-- `capi::ofec_open_line` meets its contract: the header of the library in numbers.
use Rattle.std.proofs.Common.{rules}
use Rattle.capi.specs.ExportLaws.{lines}
use Rattle.capi.proofs.ofec_open_line.Goals as goal

pub returns-in-Ok : goal.returns-in-Ok
returns-in-Ok c = search (rules, lines)

pub returns-in-Err : goal.returns-in-Err
returns-in-Err c = search (rules, lines)
