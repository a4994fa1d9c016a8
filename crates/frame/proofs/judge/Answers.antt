-- `frame::judge` meets its contract: the tests in their order.
use Rattle.std.proofs.Common.{rules}
use Rattle.calls.proofs.CallLaws.{tests}
use Rattle.cells_spec.proofs.FoundLaws.{found_at, found_within, found_none}
use Rattle.frame_spec.specs.Calls.{sub_frame_tests}
use Rattle.frame_spec.proofs.CallLaws.{sub_frame_tests_lem}
use Rattle.frame.proofs.judge.Goals as goal

ruleset kit = (rules, tests, sub_frame_tests_lem)

pub returns-then-overhead-ne-OVERHEAD : goal.returns-then-overhead-ne-OVERHEAD
unfolding sub_frame_tests
returns-then-overhead-ne-OVERHEAD c = search kit

pub returns-then-frame-ne-FRAME : goal.returns-then-frame-ne-FRAME
unfolding sub_frame_tests
returns-then-frame-ne-FRAME c = search kit

pub returns-then-number-gt-LAST : goal.returns-then-number-gt-LAST
unfolding sub_frame_tests
returns-then-number-gt-LAST c = search kit

pub returns-then-payload-payload_cells : goal.returns-then-payload-payload_cells
unfolding sub_frame_tests
returns-then-payload-payload_cells c = search kit

pub returns-in-Some : goal.returns-in-Some
unfolding sub_frame_tests
returns-in-Some c = search (kit, found_at _ _ _ c.in-Some.ensures, found_within _ _ _ c.in-Some.ensures) depth 7

pub returns : goal.returns
unfolding sub_frame_tests
returns c = search (kit, found_none _ _ c.in_default.ensures) depth 7

pub overflow_add-result : goal.overflow_add-result
overflow_add-result c = let l = found_within _ _ _ c.in-Some.ensures in search rules
