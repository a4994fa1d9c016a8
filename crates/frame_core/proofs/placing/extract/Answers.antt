-- `frame_core::placing::extract` meets its contract.
use Rattle.std.proofs.Common.{rules}
use Rattle.frame_spec.proofs.RunLaws.{by_runs}
use Rattle.frame_core.proofs.placing.extract.Goals as goal

pub overflow_sub-a : goal.overflow_sub-a
overflow_sub-a c = search (rules, by_runs)

pub slice_bounds-copy_run-end : goal.slice_bounds-copy_run-end
slice_bounds-copy_run-end c = search (rules, by_runs)

pub loop-i-preserved : goal.loop-i-preserved
loop-i-preserved c = search (rules, by_runs)

pub returns : goal.returns
returns c = search (rules, by_runs)
