-- `frame_core::placing::copy_run` meets its contract.
use Rattle.std.proofs.Common.{rules}
use Rattle.frame_spec.proofs.RunLaws.{part_copied}
use Rattle.frame_core.proofs.placing.copy_run.Goals as goal

pub returns : goal.returns
returns c = search (rules, part_copied)
