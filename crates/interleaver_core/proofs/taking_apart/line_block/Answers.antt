-- `interleaver_core::taking_apart::line_block` meets its contract.
use Rattle.std.proofs.Common.{rules}
use Rattle.bits.proofs.FromFn.{from_fn_is}
use Rattle.blocks.specs.Block.{block}
use Rattle.interleaver_core.proofs.taking_apart.line_block.Goals as goal

pub returns : goal.returns
unfolding block
returns c = from_fn_is _ (λ j y q l e. search rules) c.from_fn.ensures.items
