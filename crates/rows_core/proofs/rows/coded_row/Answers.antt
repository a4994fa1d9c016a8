-- `rows_core::rows::coded_row` meets its contract.
use Rattle.rows_core.specs.RowWordLaws.{halves_row}
use Rattle.rows_core.proofs.rows.coded_row.Goals as goal

pub returns : goal.returns
returns c = halves_row _ _ _ _ c.row_words-words.ensures c.backs_in.ensures
