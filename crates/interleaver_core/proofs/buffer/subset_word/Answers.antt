-- `interleaver_core::buffer::subset_word` meets its contract.
use Rattle.std.proofs.Common.{rules}
use Rattle.interleaver_spec.specs.BlockBuffer.{subset_word}
use Rattle.interleaver_core.proofs.buffer.subset_word.Goals as goal

pub returns : goal.returns
unfolding subset_word
returns c = search rules
