-- `rows_core::rows::half_block` meets its contract: word by word.
use Rattle.std.proofs.Common.{rules}
use Rattle.bits.proofs.FromFn.{from_fn_is}
use Rattle.rows_core.specs.RowWords.{half_block}
use Rattle.rows_core.proofs.rows.half_block.Goals as goal

pub returns : goal.returns
unfolding half_block
returns c = from_fn_is _ (λ i y q l e. search rules) c.from_fn.ensures.items
