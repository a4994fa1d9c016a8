-- `gathering_core::lanes::added` meets its contract: number by number.
use Rattle.std.proofs.Common.{rules, get_or}
use Rattle.bits.proofs.FromFn.{from_fn_each}
use Rattle.gathering_core.proofs.lanes.added.Goals as goal

pub returns : goal.returns
returns g c z i l =
    from_fn_each (λ i r. g.T.BitXor.bitxor_gives (get_or c.args.a.now i z) (get_or c.args.b.now i z) r)
    (λ i y q l e. (search rules, e.met.1 z)) c.from_fn.ensures.items i l z
