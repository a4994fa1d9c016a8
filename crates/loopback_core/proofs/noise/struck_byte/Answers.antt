-- `loopback_core::noise::struck_byte` meets its contract.
use Rattle.std.proofs.Common.{rules}
use Rattle.loopback_core.specs.NoiseLaws.{striking}
use Rattle.loopback_core.proofs.noise.struck_byte.Goals as goal

pub returns : goal.returns
returns c = (search (rules, striking), search (rules, striking))
