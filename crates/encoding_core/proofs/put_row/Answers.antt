-- `encoding_core::put_row` meets its contract.
use Rattle.encoding_core.specs.EncodingLaws.{row_coded}
use Rattle.encoding_core.proofs.put_row.Goals as goal

pub returns : goal.returns
returns c = row_coded _ _ _ _ _ _ _ c.requires.0 c.write_words.ensures c.coded_words-row.ensures c.row_checks.ensures
