-- `blocks::block_of` meets its contract.
use Rattle.std.proofs.Common.{rules}
use Rattle.bits.proofs.FromFn.{from_fn_is}
use Rattle.blocks.specs.SideBySide.{row_block}
use Rattle.blocks.proofs.block_of.Goals as goal

pub returns : goal.returns
unfolding row_block
returns c = from_fn_is _ (λ i y q l e. search rules) c.from_fn.ensures.items
