-- `blocks::laying::put_lane`: value by value.
use Rattle.blocks.specs.PutLane.{PutBelow}
use Rattle.blocks.proofs.laying.put_lane.Given as goal

abbrev pub invariant-loop-i : goal.invariant-loop-i
invariant-loop-i g l = PutBelow l.fn.row l.lane l.values l.i l.row
