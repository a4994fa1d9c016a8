-- `rows_core::rows::fronts_in` meets its contract: block by block.
use Rattle.std.proofs.Common.{rules}
use Rattle.blocks.specs.LaidBy.{laid_by_is}
use Rattle.rows_core.specs.RowWords.{fronts_block, fronts_in}
use Rattle.rows_core.proofs.rows.fronts_in.Goals as goal

pub returns : goal.returns
unfolding fronts_in fronts_block
returns c = laid_by_is (fronts_block c.args.words.now) (λ C b l e. search rules) c.laid_by.ensures
