-- `loopback_refused_core::frame_off_grid` meets its contract.
use Rattle.std.proofs.Common.{rules}
use Rattle.loopback_refused_core.specs.RefusedLaws.{frame_off_grid}
use Rattle.loopback_refused_core.proofs.frame_off_grid.Goals as goal

pub returns : goal.returns
returns c = frame_off_grid _ _ _ _ _ _ (search rules) (search rules) c.frame.ensures (search rules) (search rules)
