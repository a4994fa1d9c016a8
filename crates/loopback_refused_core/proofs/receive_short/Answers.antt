-- `loopback_refused_core::receive_short` meets its contract.
use Rattle.std.proofs.Common.{rules}
use Rattle.loopback_refused_core.specs.RefusedLaws.{receive_misfit, receive_misfit_keeps}
use Rattle.loopback_refused_core.proofs.receive_short.Goals as goal

pub returns : goal.returns
returns c = (search (rules, receive_misfit), search (rules, receive_misfit_keeps))
