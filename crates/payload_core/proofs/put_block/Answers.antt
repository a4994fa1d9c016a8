-- `payload_core::put_block` meets its contract: one row after the other.
use Rattle.std.proofs.Common.{rules}
use Rattle.payload_core.specs.RowBytes.{both_halves}
use Rattle.payload_core.proofs.put_block.Goals as goal

pub returns : goal.returns
returns c = search (rules, both_halves)
