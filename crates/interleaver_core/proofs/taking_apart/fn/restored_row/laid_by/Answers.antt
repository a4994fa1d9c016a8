-- `interleaver_core::taking_apart::fn::restored_row::laid_by` meets its contract.
use Rattle.std.proofs.Common.{rules}
use Rattle.interleaver_spec.proofs.BlockBufferLaws.{restored_block_lem}
use Rattle.interleaver_core.proofs.taking_apart.fn.restored_row.laid_by.Goals as goal

pub returns : goal.returns
returns c = search (rules, restored_block_lem)
