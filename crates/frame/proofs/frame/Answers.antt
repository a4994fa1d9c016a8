-- `frame::frame` meets its contract.
use Rattle.std.proofs.Common.{rules}
use Rattle.std.proofs.lemmas.Result.{err_from_is_err_and}
use Rattle.calls.proofs.CallLaws.{cases}
use Rattle.cells_spec.proofs.CallLaws.{legality}
use Rattle.cells_spec.proofs.FoundLaws.{found_at, found_within, found_none}
use Rattle.frame_spec.proofs.CallLaws.{judging, frame_done}
use Rattle.frame.proofs.frame.Goals as goal

ruleset kit = (rules, cases, legality, judging)

pub returns-in_err-judge : goal.returns-in_err-judge
returns-in_err-judge c =
    let p = err_from_is_err_and c.from_residual.result c.from_residual.ensures.1 in
    rw (p.1, p.2) (search (kit, c.in_err-judge.was))

pub returns-in-Some : goal.returns-in-Some
returns-in-Some c = search (kit, c.in_ok-judge.was, found_at _ _ _ c.in-Some.ensures, found_within _ _ _ c.in-Some.ensures)

pub own_overhead-requires : goal.own_overhead-requires
own_overhead-requires c = search (kit, c.in_ok-judge.was)

pub place-requires : goal.place-requires
place-requires c = search (kit, c.in_ok-judge.was)

pub returns : goal.returns
returns c = search (rules, frame_done, c.in_ok-judge.was, found_none _ _ c.in_default.ensures)
