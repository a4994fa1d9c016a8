-- `blocks::write_row` meets its contract: two bytes a word.
use Rattle.std.proofs.Common.{rules}
use Rattle.blocks.specs.Twos.{row_written}
use Rattle.blocks.proofs.write_row.Goals as goal

pub returns : goal.returns
returns c = row_written c.args.row.now c.put_words.new.out (search rules) c.fits-row (λ x l. c.put_words.ensures x (search rules))
