-- `loopback_refused_core::receive_spent` meets its contract.
use Rattle.std.proofs.Common.{rules}
use Rattle.loopback_refused_core.specs.RefusedLaws.{receive_late}
use Rattle.loopback_refused_core.proofs.receive_spent.Goals as goal

pub returns : goal.returns
returns c = search (rules, receive_late)
