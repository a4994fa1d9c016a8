-- `payload_rows_core::payload_row` meets its contract: seven blocks, and zeros.
use Rattle.std.proofs.Common.{rules, replicate, refl}
use Rattle.payload_rows_core.specs.PayloadRowLaws.{row_parts}
use Rattle.payload_rows_core.proofs.payload_row.Goals as goal

pub returns : goal.returns
returns c =
    row_parts c.args.payload.now c.args.last.now c.args.s (replicate 128 0) _ _ refl c.put_blocks.ensures (search rules) c.requires.1 c.requires.2
