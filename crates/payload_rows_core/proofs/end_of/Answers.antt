-- `payload_rows_core::end_of` meets its contract.
use Rattle.std.proofs.Common.{rules, replicate}
use Rattle.payload_rows_core.specs.PayloadRowLaws.{end_copied}
use Rattle.payload_rows_core.proofs.end_of.Goals as goal

pub returns : goal.returns
returns c = end_copied c.args.payload.now (replicate 18 0) _ c.requires (search rules) (search rules)
