-- `payload_core::put_half` meets its contract: two bytes a number.
use Rattle.std.proofs.Common.{rules}
use Rattle.payload_core.specs.RowBytes.{half_byte, half_part}
use Rattle.payload_core.proofs.put_half.Goals as goal

pub returns : goal.returns
returns c =
    rw c.requires.0 at (c.fill_parts.ensures (half_byte c.args.row.now c.args.block)
    (λ k p q l long e. half_part c.args.row.now c.args.block k q.now (search rules)))
