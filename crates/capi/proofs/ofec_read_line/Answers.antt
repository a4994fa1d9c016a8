-- `capi::ofec_read_line` meets its contract: one law for each answer.
use Rattle.std.proofs.Common.{rules}
use Rattle.capi.specs.ExportLaws.{readings}
use Rattle.capi.proofs.ofec_read_line.Goals as goal

pub returns-then-n-ne0 : goal.returns-then-n-ne0
returns-then-n-ne0 c = search (rules, readings)

pub returns : goal.returns
returns c = search (rules, readings)

pub overflow_cast-result : goal.overflow_cast-result
overflow_cast-result c = search (rules, readings)
