-- `blocks::laying::laid_by` meets its contract: block after block.
use Rattle.std.proofs.Common.{rules}
use Rattle.blocks.specs.LaidBy.{laying_by}
use Rattle.blocks.specs.PutLane.{put_in}
use Rattle.blocks.proofs.laying.laid_by.Goals as goal

ruleset kit = (rules, laying_by, put_in)

pub loop-block-init : goal.loop-block-init
loop-block-init g c = search kit

pub loop-block-preserved : goal.loop-block-preserved
loop-block-preserved g c = search kit

pub returns : goal.returns
returns g c = search kit
