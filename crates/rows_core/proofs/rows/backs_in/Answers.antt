-- `rows_core::rows::backs_in` meets its contract: block by block.
use Rattle.std.proofs.Common.{rules}
use Rattle.blocks.specs.LaidBy.{laid_by_is}
use Rattle.rows_core.specs.RowWords.{backs_block, backs_in}
use Rattle.rows_core.proofs.rows.backs_in.Goals as goal

pub returns : goal.returns
unfolding backs_in backs_block
returns c = laid_by_is (backs_block c.args.words.now) (λ C b l e. search rules) c.laid_by.ensures
