-- `gathering_core::lanes::lane` meets its contract: number by number.
use Rattle.std.proofs.Common.{rules, ◌∙◌, arith, ◌+◌, ◌*◌, length, ◌≡◌, get_or}
use Rattle.std.proofs.lemmas.List.{get_or_default}
use Rattle.bits.proofs.FromFn.{from_fn_is}
use Rattle.gathering_core.proofs.lanes.lane.Goals as goal

pub returns : goal.returns
returns g c z =
    from_fn_is _
    (λ i y q l e.
    let s : y ≡ get_or c.args.x.now (8 * i + c.args.c) y = e.met.1 in
    let n : length c.args.x.now ≡ 128 = omega (arith, c.told-x) in
    (search rules, s ∙ get_or_default c.args.x.now (8 * i + c.args.c) y z (omega arith)))
    c.from_fn.ensures.items
