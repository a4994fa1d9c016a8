-- `completing_core::check_row` meets its contract: zeros, then both.
use Rattle.std.proofs.Common.{◌∙◌, replicate}
use Rattle.completing_core.specs.CompletingLaws.{check_none, check_row_lem}
use Rattle.completing_core.proofs.check_row.Goals as goal

pub returns : goal.returns
returns c =
    check_row_lem c.args.checks.now.last c.args.checks.now.own c.args.s _ (replicate 128 0) _ _ (check_none _ _ _) c.half.ensures
    (c.copy_from_slice.ensures.after ∙ c.own_numbers.ensures) (c.copy_from_slice-2.ensures.after ∙ c.last_numbers.ensures)
