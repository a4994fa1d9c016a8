-- `loopback_core::noise::carrier` meets its contract.
use Rattle.std.proofs.Common.{rules}
use Rattle.loopback_core.specs.PlaceLaws.{carrier_is}
use Rattle.loopback_core.proofs.noise.carrier.Goals as goal

pub returns : goal.returns
returns c = (search (rules, carrier_is), search rules)
