-- `mending::mend` meets its contract: one law for each case.
use Rattle.std.proofs.Common.{rules}
use Rattle.mending_core.specs.MendingLaws.{mending}
use Rattle.mending_core.proofs.mending.mend.Goals as goal

ruleset kit = (rules, mending)

pub returns-in-Sound : goal.returns-in-Sound
returns-in-Sound c = (search kit, search kit, search kit)

pub returns-in-One : goal.returns-in-One
returns-in-One c = (search kit, search kit, search kit)

pub returns-in-Two : goal.returns-in-Two
returns-in-Two c = (search kit, search kit, search kit)
