-- `interleaver_core::rows::output_byte` meets its contract.
use Rattle.std.proofs.Common.{rules}
use Rattle.interleaver_spec.proofs.PositionLaws.{output_begins}
use Rattle.interleaver_core.proofs.rows.output_byte.Goals as goal

pub returns : goal.returns
returns c = search (rules, output_begins)
