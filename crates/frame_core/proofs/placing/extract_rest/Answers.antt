-- `frame_core::placing::extract_rest` meets its contract.
use Rattle.std.proofs.Common.{rules}
use Rattle.frame_spec.proofs.RunLaws.{by_runs}
use Rattle.frame_core.proofs.placing.extract_rest.Goals as goal

pub slice_bounds-copy-end : goal.slice_bounds-copy-end
slice_bounds-copy-end c = search (rules, by_runs)

pub returns : goal.returns
returns c = search (rules, by_runs)
