-- `frame::unframe` meets its contract.
use Rattle.std.proofs.Common.{rules}
use Rattle.std.proofs.lemmas.Result.{err_from_is_err_and}
use Rattle.calls.proofs.CallLaws.{cases}
use Rattle.cells_spec.proofs.CallLaws.{legality}
use Rattle.cells_spec.proofs.FoundLaws.{found_at, found_within, found_none}
use Rattle.frame_spec.proofs.CallLaws.{judging, unframe_done}
use Rattle.frame.proofs.unframe.Goals as goal

ruleset kit = (rules, cases, legality, judging)

pub returns-in_err-judge : goal.returns-in_err-judge
returns-in_err-judge c =
    let p = err_from_is_err_and c.from_residual.result c.from_residual.ensures.1 in
    rw (p.1, p.2) (search (kit, c.in_err-judge.was))

pub returns-in-Some : goal.returns-in-Some
returns-in-Some c = search (kit, c.in_ok-judge.was, found_at _ _ _ c.in-Some.ensures, found_within _ _ _ c.in-Some.ensures)

pub first_illegal-requires : goal.first_illegal-requires
first_illegal-requires c = search (kit, c.in_ok-judge.was)

pub extract-requires : goal.extract-requires
extract-requires c = search (kit, c.in_ok-judge.was)

pub own_overhead-own-requires : goal.own_overhead-own-requires
own_overhead-own-requires c = search (kit, c.in_ok-judge.was)

pub differing-requires : goal.differing-requires
differing-requires c = search (kit, c.in_ok-judge.was)

pub returns : goal.returns
returns c = search (rules, unframe_done, c.in_ok-judge.was, found_none _ _ c.in_default.ensures)
