-- `loopback_refused_core::encode_spent` meets its contract.
use Rattle.std.proofs.Common.{rules}
use Rattle.loopback_refused_core.specs.RefusedLaws.{encode_late}
use Rattle.loopback_refused_core.proofs.encode_spent.Goals as goal

pub returns : goal.returns
returns c = search (rules, encode_late)
