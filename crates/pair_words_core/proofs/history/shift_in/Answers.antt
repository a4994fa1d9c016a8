-- `pair_words_core::history::shift_in` meets its contract.
use Rattle.std.proofs.Common.{rules}
use Rattle.pair_words_core.specs.Shifting.{shift_behind}
use Rattle.pair_words_core.proofs.history.shift_in.Goals as goal

pub returns : goal.returns
returns c = search (rules, shift_behind)
