-- `word::apply` meets its contract: one law for each case.
use Rattle.std.proofs.Common.{rules}
use Rattle.word.specs.Applying.{applying, apply_none, none_flipped}
use Rattle.word.proofs.apply.Goals as goal

pub returns-in-Sound : goal.returns-in-Sound
returns-in-Sound c = apply_none _ _ c.requires.0 (λ j. (c.type_inv.w j).fits) (none_flipped _ c.in-Sound.is)

pub returns-in-One : goal.returns-in-One
returns-in-One c = search (rules, applying)

pub returns-in-Two : goal.returns-in-Two
returns-in-Two c = search (rules, applying)
