-- `rows_core::rows::row_words` meets its contract: word by word.
use Rattle.std.proofs.Common.{rules}
use Rattle.bits.proofs.FromFn.{from_fn_is}
use Rattle.rows_core.specs.RowWords.{row_words}
use Rattle.rows_core.proofs.rows.row_words.Goals as goal

pub returns : goal.returns
unfolding row_words
returns c = from_fn_is _ (λ i y q l e. search rules) c.from_fn.ensures.items
