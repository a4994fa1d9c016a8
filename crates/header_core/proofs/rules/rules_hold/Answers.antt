-- `header_core::rules::rules_hold` meets its contract: each rule by itself.
use Rattle.std.proofs.Common.{rules}
use Rattle.line_file_spec.proofs.HeaderLaws.{one_by_one}
use Rattle.header_core.proofs.rules.rules_hold.Goals as goal

pub returns-then-n-lt1 : goal.returns-then-n-lt1
returns-then-n-lt1 c = search (rules, one_by_one)

pub returns-then-n-gt64 : goal.returns-then-n-gt64
returns-then-n-gt64 c = search (rules, one_by_one)

pub returns-then-o-lt16 : goal.returns-then-o-lt16
returns-then-o-lt16 c = search (rules, one_by_one)

pub returns-then-f-o : goal.returns-then-f-o
returns-then-f-o c = search (rules, one_by_one)

pub returns-then-total-f : goal.returns-then-total-f
returns-then-total-f c = search (rules, one_by_one)

pub returns : goal.returns
returns c = search (rules, one_by_one)
