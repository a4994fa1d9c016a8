-- `loopback_core::noise::replace` meets its contract.
use Rattle.std.proofs.Common.{rules}
use Rattle.loopback_core.specs.NoiseLaws.{replaced_is}
use Rattle.loopback_core.proofs.noise.replace.Goals as goal

pub returns : goal.returns
returns c = search (rules, replaced_is)
