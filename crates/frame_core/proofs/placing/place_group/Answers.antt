-- `frame_core::placing::place_group` meets its contract.
use Rattle.std.proofs.Common.{rules}
use Rattle.frame_spec.proofs.RunLaws.{by_groups}
use Rattle.frame_core.proofs.placing.place_group.Goals as goal

pub overflow_sub-i : goal.overflow_sub-i
overflow_sub-i c = search (rules, by_groups)

pub copy_run-requires : goal.copy_run-requires
copy_run-requires c = search (rules, by_groups)

pub returns : goal.returns
returns c = search (rules, by_groups)
