-- `interleaver_core::taking_apart::restored_row` meets its contract.
use Rattle.std.proofs.Common.{rules}
use Rattle.blocks.specs.LaidBy.{laid_by_is}
use Rattle.interleaver_spec.specs.BlockBuffer.{restored_block, restored_row}
use Rattle.interleaver_core.proofs.taking_apart.restored_row.Goals as goal

pub returns : goal.returns
unfolding restored_row
returns c = laid_by_is (restored_block c.args.bits.now c.args.k) (λ C b l e. search rules) c.laid_by.ensures
