-- `blocks::block_in` meets its contract.
use Rattle.std.proofs.Common.{rules}
use Rattle.bits.proofs.FromFn.{from_fn_is}
use Rattle.blocks.specs.SideBySide.{words_block}
use Rattle.blocks.proofs.block_in.Goals as goal

pub returns : goal.returns
unfolding words_block
returns c = from_fn_is _ (λ i y q l e. search rules) c.from_fn.ensures.items
