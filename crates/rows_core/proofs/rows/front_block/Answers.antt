-- `rows_core::rows::front_block` meets its contract: word by word.
use Rattle.std.proofs.Common.{rules}
use Rattle.bits.proofs.FromFn.{from_fn_is}
use Rattle.rows_core.specs.RowWords.{front_block}
use Rattle.rows_core.proofs.rows.front_block.Goals as goal

pub returns : goal.returns
unfolding front_block
returns c = from_fn_is _ (λ i y q l e. search rules) c.from_fn.ensures.items
