-- `loopback_refused_core::encode_short` meets its contract.
use Rattle.std.proofs.Common.{rules}
use Rattle.loopback_refused_core.specs.RefusedLaws.{encode_misfit, encode_misfit_keeps}
use Rattle.loopback_refused_core.proofs.encode_short.Goals as goal

pub returns : goal.returns
returns c = (search (rules, encode_misfit), search (rules, encode_misfit_keeps))
