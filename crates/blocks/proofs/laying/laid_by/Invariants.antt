-- `blocks::laying::laid_by`: block after block.
use Rattle.blocks.specs.LaidBy.{LayingBy}
use Rattle.blocks.proofs.laying.laid_by.Given as goal

abbrev pub invariant-loop-block : goal.invariant-loop-block
invariant-loop-block g l = LayingBy (goal.F-post g l.step) l.block l.row
