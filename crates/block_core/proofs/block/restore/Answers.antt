-- `block_core::block::restore` meets its contract: where the moves take each of the 256 bits.
use Rattle.std.proofs.Common.{rules}
use Rattle.interleaver_spec.proofs.MoveLaws.{restore_is}
use Rattle.block_core.proofs.block.restore.Goals as goal

pub returns : goal.returns
returns c = search (rules, restore_is)
