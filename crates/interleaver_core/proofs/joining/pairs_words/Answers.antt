-- `interleaver_core::joining::pairs_words` meets its contract.
use Rattle.std.proofs.Common.{rules}
use Rattle.bits.proofs.FromFn.{from_fn_is}
use Rattle.interleaver_spec.specs.BlockBuffer.{pairs_words}
use Rattle.interleaver_spec.proofs.BlockBufferLaws.{pairs_word_lem}
use Rattle.interleaver_core.proofs.joining.pairs_words.Goals as goal

pub returns : goal.returns
unfolding pairs_words
returns c = from_fn_is _ (λ x y q l e. (search rules, pairs_word_lem _ _ _ x y c.pairs_byte-begin.ensures.0 (search rules))) c.from_fn.ensures.items
