-- `rows_core::rows::backs` meets its contract.
use Rattle.rows_core.specs.HeldLaws.{backs_held}
use Rattle.rows_core.proofs.rows.backs.Goals as goal

pub returns : goal.returns
returns c = backs_held _ _ _ c.columns_of.ensures
