-- `loopback_core::noise::damage` meets its contract.
use Rattle.std.proofs.Common.{rules}
use Rattle.loopback_core.specs.NoiseLaws.{damaged_is}
use Rattle.loopback_core.proofs.noise.damage.Goals as goal

pub returns : goal.returns
returns c = search (rules, damaged_is)
