-- `block_core::block::reorder` meets its contract: where the moves take each of the 256 bits.
use Rattle.std.proofs.Common.{rules}
use Rattle.interleaver_spec.proofs.MoveLaws.{reorder_is}
use Rattle.block_core.proofs.block.reorder.Goals as goal

pub returns : goal.returns
returns c = search (rules, reorder_is)
