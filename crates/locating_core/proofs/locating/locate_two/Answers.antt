-- `locating::locate_two` meets its contract: its two places are those of a root.
use Rattle.std.proofs.Common.{refl, arith, rules}
use Rattle.bits.specs.Xor.{◌⊕◌}
use Rattle.locating_core.proofs.RootLaws.{cube_positive}
use Rattle.locating_core.proofs.Finding.{two_none, two_found}
use Rattle.locating_core.proofs.locating.locate_two.Goals as goal

pub over-requires : goal.over-requires
over-requires c = search (rules, cube_positive)

pub returns-in_default : goal.returns-in_default
unfolding ◌⊕◌
returns-in_default c =
    two_none _ c.requires.0 c.requires.1 (search rules) _ _ 0 c.cube-q.ensures c.over.ensures c.over.type_inv c.in_default.ensures refl

pub returns : goal.returns
unfolding ◌⊕◌
returns c =
    let i = c.place_of-i in
    let j = c.place_of-j in
    rw (c.min.ensures, c.max.ensures) (two_found _ c.requires.0 c.requires.1 (search rules) _ _ c.in-Some.y c.cube-q.ensures c.over.ensures c.over.type_inv c.in-Some.ensures.0 (λ e. omega (arith, c.in-Some.ensures.1)) _ _ _ c.times-x.ensures i.ensures.0 i.ensures.1 j.ensures.0 j.ensures.1)
