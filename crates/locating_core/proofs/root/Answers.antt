-- `locating_core::root` meets its contract: the array is the table of specs/Roots.antt.
use Rattle.std.proofs.Common.{◌≡◌, get_or, sym, subst, ◌∙◌, ap, arith}
use Rattle.locating_core.specs.Roots.{rooted}
use Rattle.locating_core.specs.RootLaws.{Root}
use Rattle.locating_core.proofs.RootLaws.{root_at}
use Rattle.locating_core.proofs.root.Goals as goal

pub returns-then-y-eq0 : goal.returns-then-y-eq0
unfolding rooted
returns-then-y-eq0 c =
    let e : get_or rooted c.args.c 0 ≡ 0 = ap (λ k. get_or rooted k 0) (sym c.from.ensures) ∙ c.if-y-eq0.true in
    subst (Root c.args.c) e (root_at c.args.c (omega arith))

pub returns-else-y-eq0 : goal.returns-else-y-eq0
unfolding rooted
returns-else-y-eq0 c =
    let e : get_or rooted c.from.result 0 ≡ get_or rooted c.args.c 0 = ap (λ k. get_or rooted k 0) c.from.ensures in
    (subst (Root c.args.c) (sym e) (root_at c.args.c (omega arith)), omega (arith, c.if-y-eq0.false))
