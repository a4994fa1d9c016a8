-- `loopback_core::random::fill` meets its contract: one number a turn.
use Rattle.std.proofs.Common.{rules}
use Rattle.loopback_core.specs.Random.{state_at}
use Rattle.loopback_core.specs.RandomLaws.{drawing}
use Rattle.loopback_core.proofs.random.fill.Goals as goal

pub loop-byte-init : goal.loop-byte-init
unfolding state_at
loop-byte-init c = search (rules, drawing)

pub loop-byte-preserved : goal.loop-byte-preserved
loop-byte-preserved c = search (rules, drawing)

pub returns : goal.returns
returns c = search (rules, drawing)
