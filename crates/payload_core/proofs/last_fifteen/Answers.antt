-- `payload_core::last_fifteen` meets its contract.
use Rattle.std.proofs.Common.{◌<◌, ◌^◌, arith, refl}
use Rattle.payload_core.specs.PayloadParts.{fifteen_is}
use Rattle.payload_core.proofs.last_fifteen.Goals as goal

pub returns : goal.returns
returns c =
    let l : c.from.result < 2 ^ 15 = omega (arith, c.from.ensures) in
    (fifteen_is c.args.halves.now c.args.w _ c.turn.result c.from.result c.from.ensures c.turn.ensures refl l, l)
