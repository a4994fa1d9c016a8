-- `loopback_refused_core::spent` meets its contract: zeros with a front.
use Rattle.std.proofs.Common.{rules}
use Rattle.pair_spec.proofs.FrontLaws.{zeros_put}
use Rattle.loopback_refused_core.proofs.spent.Goals as goal

pub returns : goal.returns
returns c = search (rules, zeros_put)
