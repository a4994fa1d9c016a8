-- `loopback_core::counts::answered` meets its contract.
use Rattle.loopback_core.specs.Tally.{answered}
use Rattle.loopback_core.proofs.counts.answered.Goals as goal

pub returns : goal.returns
unfolding answered
returns c = cc
