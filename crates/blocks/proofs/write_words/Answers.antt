-- `blocks::write_words` meets its contract: two bytes a word.
use Rattle.std.proofs.Common.{rules}
use Rattle.blocks.specs.Twos.{words_written}
use Rattle.blocks.proofs.write_words.Goals as goal

pub returns : goal.returns
returns c = words_written c.args.words.now c.put_words.new.out (search rules) c.fits-words (λ x l. c.put_words.ensures x (search rules))
