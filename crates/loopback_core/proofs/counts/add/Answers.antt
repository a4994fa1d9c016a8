-- `loopback_core::counts::add` meets its contract.
use Rattle.std.proofs.Common.{rules}
use Rattle.loopback_core.specs.TallyLaws.{sum_known}
use Rattle.loopback_core.proofs.counts.add.Goals as goal

pub returns : goal.returns
returns c = search (rules, sum_known)
