-- `history_core::fresh` meets its contract: zeros with a front.
use Rattle.std.proofs.Common.{rules}
use Rattle.pair_spec.proofs.FrontLaws.{fresh_put}
use Rattle.history_core.proofs.fresh.Goals as goal

pub returns : goal.returns
returns c = search (rules, fresh_put)
