-- `pair_words_core::words::last_bit` meets its contract: one law for each branch.
use Rattle.std.proofs.Common.{rules}
use Rattle.pair_words_core.specs.WordBytes.{own_high, own_none}
use Rattle.pair_words_core.proofs.words.last_bit.Goals as goal

pub returns-then-k-lt239 : goal.returns-then-k-lt239
returns-then-k-lt239 c = search (rules, own_high)

pub returns-else-k-lt239 : goal.returns-else-k-lt239
returns-else-k-lt239 c = search (rules, own_none)
