-- `header::write_header` meets its contract: the cases of the call.
use Rattle.std.proofs.Common.{rules}
use Rattle.calls.proofs.CallLaws.{cases}
use Rattle.line_file_spec.proofs.WritingLaws.{n_rule, write_done}
use Rattle.header.proofs.write_header.Goals as goal

ruleset kit = (rules, cases, n_rule, write_done)

pub returns-then-header-ne16 : goal.returns-then-header-ne16
returns-then-header-ne16 c = search kit

pub returns-then-superframes-lt1 : goal.returns-then-superframes-lt1
returns-then-superframes-lt1 c = search kit

pub returns-then-superframes-gt64 : goal.returns-then-superframes-gt64
returns-then-superframes-gt64 c = search kit

pub returns : goal.returns
returns c = search kit
