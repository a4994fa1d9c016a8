-- `loopback_core::noise::strike` meets its contract: one cell a turn.
use Rattle.std.proofs.Common.{rules}
use Rattle.loopback_core.specs.NoiseLaws.{strikes}
use Rattle.loopback_core.proofs.noise.strike.Goals as goal

pub overflow_mul-q : goal.overflow_mul-q
overflow_mul-q c = search (rules, strikes)

pub overflow_add-q : goal.overflow_add-q
overflow_add-q c = search (rules, strikes)

pub strike_one-requires : goal.strike_one-requires
strike_one-requires c = search (rules, strikes)

pub loop-v-init : goal.loop-v-init
loop-v-init c = record { number = search rules; struck = search (rules, strikes) }

pub loop-v-preserved : goal.loop-v-preserved
loop-v-preserved c = record { number = c.loop-v.invariant.number; struck = search (rules, strikes) }

pub returns : goal.returns
returns c = search (rules, strikes)
