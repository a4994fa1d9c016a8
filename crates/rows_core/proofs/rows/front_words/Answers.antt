-- `rows_core::rows::front_words` meets its contract: block by block.
use Rattle.std.proofs.Common.{rules}
use Rattle.blocks.specs.LaidBy.{laid_by_is}
use Rattle.rows_core.specs.RowWords.{front_block, front_words}
use Rattle.rows_core.proofs.rows.front_words.Goals as goal

pub returns : goal.returns
unfolding front_words
returns c = laid_by_is (front_block c.args.history.now c.args.from) (λ C b l e. search rules) c.laid_by.ensures
