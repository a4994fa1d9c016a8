-- `riffle_core::riffle` meets its contract.
use Rattle.std.proofs.Common.{rules, arith, refl}
use Rattle.blocks.specs.Twos.{twos_done, twos}
use Rattle.riffle_core.specs.Riffles.{riffled}
use Rattle.riffle_core.specs.RiffleLaws.{riffling}
use Rattle.riffle_core.proofs.riffle.Goals as goal

ruleset kit = (rules, twos, riffling)

pub loop-n-init : goal.loop-n-init
loop-n-init c = search kit

pub loop-n-preserved : goal.loop-n-preserved
loop-n-preserved c = search kit

pub returns : goal.returns
unfolding riffled
returns c = twos_done 128 c.loop-n.invariant (omega (arith, c.split_at.ensures.front_len)) refl
