-- `encoding_core::coded_words` meets its contract: block by block.
use Rattle.std.proofs.Common.{rules}
use Rattle.blocks.specs.LaidBy.{laid_by_is}
use Rattle.rows_core.specs.RowWords.{backs_block, backs_in}
use Rattle.encoding_core.specs.CodedPairs.{row_with}
use Rattle.encoding_core.proofs.coded_words.Goals as goal

pub returns : goal.returns
unfolding backs_in backs_block
returns c = laid_by_is (backs_block (row_with c.args.checks.now c.args.halves.now c.args.s)) (λ C b l e. search rules) c.laid_by.ensures
