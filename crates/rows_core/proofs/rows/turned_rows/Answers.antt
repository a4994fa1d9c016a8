-- `rows_core::rows::turned_rows` meets its contract: row by row.
use Rattle.std.proofs.Common.{rules}
use Rattle.bits.proofs.FromFn.{from_fn_is}
use Rattle.rows_core.specs.RowWords.{turned_rows}
use Rattle.rows_core.proofs.rows.turned_rows.Goals as goal

pub returns : goal.returns
unfolding turned_rows
returns c = from_fn_is _ (λ i y q l e. search rules) c.from_fn.ensures.items
