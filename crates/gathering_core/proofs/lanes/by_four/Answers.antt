-- `gathering_core::lanes::by_four` meets its contract.
use Rattle.std.proofs.Common.{rules}
use Rattle.blocks.specs.PutLane.{put_in}
use Rattle.gathering_core.specs.Lanes.{lanes_laid}
use Rattle.gathering_core.proofs.lanes.by_four.Goals as goal

ruleset kit = (rules, lanes_laid, put_in)

pub loop-c-init : goal.loop-c-init
loop-c-init c = search kit

pub loop-c-preserved : goal.loop-c-preserved
loop-c-preserved c = search kit

pub returns : goal.returns
returns c = search kit
