-- `header_core::rules::judge` meets its contract: the cases of the judgement.
use Rattle.std.proofs.Common.{rules}
use Rattle.line_file_spec.proofs.HeaderLaws.{header_cases}
use Rattle.header_core.proofs.rules.judge.Goals as goal

pub returns-then-size-lt16 : goal.returns-then-size-lt16
returns-then-size-lt16 c = search (rules, header_cases)

pub returns-then-not-rules_hold : goal.returns-then-not-rules_hold
returns-then-not-rules_hold c = search (rules, header_cases)

pub returns : goal.returns
returns c = search (rules, header_cases)
