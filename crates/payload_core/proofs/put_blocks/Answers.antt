-- `payload_core::put_blocks` meets its contract: one block a part.
use Rattle.std.proofs.Common.{rules}
use Rattle.payload_core.specs.RowBytes.{blocks_byte, block_part}
use Rattle.payload_core.proofs.put_blocks.Goals as goal

pub returns : goal.returns
returns c =
    rw c.requires at (c.fill_parts.ensures (blocks_byte c.args.first.now c.args.second.now)
    (λ k p q l long e. block_part c.args.first.now c.args.second.now k q.now (search rules)))
