-- `pair_words_core::words::coded_half` meets its contract: byte by byte.
use Rattle.std.proofs.Common.{rules}
use Rattle.bits.proofs.FromFn.{from_fn_is}
use Rattle.pair_words_core.proofs.words.coded_half.Goals as goal

pub returns : goal.returns
returns c = from_fn_is _ (λ j y q l e. search rules) c.from_fn.ensures.items
