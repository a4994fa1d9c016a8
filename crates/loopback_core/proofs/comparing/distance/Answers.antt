-- `loopback_core::comparing::distance` meets its contract: a count over the bits.
use Rattle.std.proofs.Common.{rules}
use Rattle.bits.proofs.Folding.{counting}
use Rattle.loopback_core.specs.TallyLaws.{differs_is, distance_fits, distance_done}
use Rattle.loopback_core.proofs.comparing.distance.Goals as goal

pub overflow_add-n : goal.overflow_add-n
overflow_add-n c = search (rules, differs_is, distance_fits)

pub loop-k-init : goal.loop-k-init
loop-k-init c = search (rules, counting)

pub loop-k-preserved : goal.loop-k-preserved
loop-k-preserved c = search (rules, counting, differs_is)

pub returns : goal.returns
returns c = search (rules, distance_done)
