-- `loopback_core::noise::strike_one` meets its contract.
use Rattle.std.proofs.Common.{rules}
use Rattle.loopback_core.specs.NoiseLaws.{strike_one_lem}
use Rattle.loopback_core.proofs.noise.strike_one.Goals as goal

pub returns : goal.returns
returns c = search (rules, strike_one_lem)
