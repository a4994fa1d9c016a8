-- `payload_rows_core::fifteen` meets its contract: four bytes, shifted and joined.
use Rattle.std.proofs.Common.{rules}
use Rattle.payload_rows_core.specs.PayloadRowLaws.{fifteen_is}
use Rattle.payload_rows_core.proofs.fifteen.Goals as goal

pub returns : goal.returns
returns c = search (rules, fifteen_is)
