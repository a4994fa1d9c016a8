-- `interleaver_core::rows::block_row_of` meets its contract.
use Rattle.std.proofs.Common.{rules}
use Rattle.interleaver_spec.proofs.SubsetLaws.{row_of}
use Rattle.interleaver_core.proofs.rows.block_row_of.Goals as goal

pub returns : goal.returns
returns c = search (rules, row_of)
