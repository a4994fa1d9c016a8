-- `line_file_core::reading::read_answer` meets its contract: the cases of the answer.
use Rattle.std.proofs.Common.{rules, sym, ◌∙◌}
use Rattle.std.proofs.lemmas.Result.{err_from_is_err_and}
use Rattle.calls.proofs.CallLaws.{tests}
use Rattle.line_file_spec.proofs.ReadingLaws.{read_unopened, read_opened, open_numbers}
use Rattle.line_file_core.proofs.reading.read_answer.Goals as goal

ruleset kit = (rules, tests, open_numbers)

pub returns-in_err-header : goal.returns-in_err-header
returns-in_err-header c =
    let p = err_from_is_err_and c.from_residual.result c.from_residual.ensures.1 in
    rw (p.1, p.2) (read_unopened _ _ _ _ _ _ _ c.open_header.ensures _ c.in_err-header.was)

pub returns-then-superframes-header : goal.returns-then-superframes-header
returns-then-superframes-header c =
    read_opened _ _ _ _ _ _ _ c.open_header.ensures _ c.in_ok-header.was _ (search (kit, sym c.in_ok-header.was ∙ c.open_header.ensures))

pub returns-then-overhead-header : goal.returns-then-overhead-header
returns-then-overhead-header c =
    read_opened _ _ _ _ _ _ _ c.open_header.ensures _ c.in_ok-header.was _ (search (kit, sym c.in_ok-header.was ∙ c.open_header.ensures))

pub returns-then-frames-header : goal.returns-then-frames-header
returns-then-frames-header c =
    read_opened _ _ _ _ _ _ _ c.open_header.ensures _ c.in_ok-header.was _ (search (kit, sym c.in_ok-header.was ∙ c.open_header.ensures))

pub returns-then-subframe-gt47 : goal.returns-then-subframe-gt47
returns-then-subframe-gt47 c =
    read_opened _ _ _ _ _ _ _ c.open_header.ensures _ c.in_ok-header.was _ (search (kit, sym c.in_ok-header.was ∙ c.open_header.ensures))

pub returns-then-superframes-superframe : goal.returns-then-superframes-superframe
returns-then-superframes-superframe c =
    read_opened _ _ _ _ _ _ _ c.open_header.ensures _ c.in_ok-header.was _ (search (kit, sym c.in_ok-header.was ∙ c.open_header.ensures))

pub returns : goal.returns
returns c =
    read_opened _ _ _ _ _ _ _ c.open_header.ensures _ c.in_ok-header.was _ (search (kit, sym c.in_ok-header.was ∙ c.open_header.ensures))
