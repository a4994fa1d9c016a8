-- `payload_core::row_by_blocks` meets its contract.
use Rattle.std.proofs.Common.{rules}
use Rattle.payload_core.specs.RowBytes.{by_blocks_made}
use Rattle.payload_core.proofs.row_by_blocks.Goals as goal

pub returns : goal.returns
returns c = search (rules, by_blocks_made)
