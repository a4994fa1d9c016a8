-- `block_core::block::move_columns` meets its contract.
use Rattle.std.proofs.Common.{rules}
use Rattle.bits.proofs.FromFn.{from_fn_is}
use Rattle.blocks.specs.Block.{block}
use Rattle.interleaver_spec.proofs.MoveLaws.{move_row}
use Rattle.block_core.proofs.block.move_columns.Goals as goal

pub returns : goal.returns
unfolding block
returns c = from_fn_is _ (λ i y q l e. search (rules, move_row)) c.from_fn.ensures.items
