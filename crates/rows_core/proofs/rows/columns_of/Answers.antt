-- `rows_core::rows::columns_of` meets its contract: block by block.
use Rattle.std.proofs.Common.{rules}
use Rattle.blocks.specs.LaidBy.{laid_by_is}
use Rattle.rows_core.specs.RowWords.{columns_block, columns_of}
use Rattle.rows_core.proofs.rows.columns_of.Goals as goal

pub returns : goal.returns
unfolding columns_of columns_block
returns c = laid_by_is (columns_block c.args.halves.now c.args.s) (λ C b l e. search rules) c.laid_by.ensures
