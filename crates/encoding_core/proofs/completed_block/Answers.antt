-- `encoding_core::completed_block` meets its contract: number by number.
use Rattle.std.proofs.Common.{rules}
use Rattle.bits.proofs.FromFn.{from_fn_is}
use Rattle.blocks.specs.SideBySide.{row_block}
use Rattle.encoding_core.specs.EncodingLaws.{block_with}
use Rattle.encoding_core.proofs.completed_block.Goals as goal

pub returns : goal.returns
unfolding row_block
returns c = from_fn_is _ (λ r y q l e. search (rules, block_with)) c.from_fn.ensures.items
