-- `payload_rows_core::put_row` meets its contract: the row by blocks, in the order of words.
use Rattle.std.proofs.Common.{◌∙◌}
use Rattle.payload_rows_core.specs.PayloadRowLaws.{row_copied}
use Rattle.payload_rows_core.proofs.put_row.Goals as goal

pub returns : goal.returns
returns c = row_copied c.args.payload.now c.args.s _ _ (c.copy_from_slice.ensures.after ∙ c.by_words.ensures) c.payload_row.ensures
