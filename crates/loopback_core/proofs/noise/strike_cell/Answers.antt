-- `loopback_core::noise::strike_cell` meets its contract: one sub-frame a turn.
use Rattle.std.proofs.Common.{rules}
use Rattle.loopback_core.specs.StepLaws.{step_none, step_done}
use Rattle.loopback_core.specs.NoiseLaws.{strike_cell_lem}
use Rattle.loopback_core.proofs.noise.strike_cell.Goals as goal

pub loop-s-init : goal.loop-s-init
loop-s-init c = search (rules, step_none)

pub loop-s-preserved : goal.loop-s-preserved
loop-s-preserved c = search (rules, strike_cell_lem)

pub returns : goal.returns
returns c = search (rules, step_done)
