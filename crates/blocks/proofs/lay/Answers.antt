-- `blocks::lay` meets its contract.
use Rattle.blocks.specs.PutLane.{put_in}
use Rattle.blocks.proofs.lay.Goals as goal

pub returns : goal.returns
returns c = put_in c.put_lane.ensures
