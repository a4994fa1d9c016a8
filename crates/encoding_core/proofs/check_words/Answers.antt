-- `encoding_core::check_words` meets its contract.
use Rattle.std.proofs.Common.{rules}
use Rattle.encoding_core.specs.EncodingLaws.{words_checked, parts_moved}
use Rattle.encoding_core.proofs.check_words.Goals as goal

pub returns : goal.returns
returns c = search (rules, words_checked, parts_moved)
