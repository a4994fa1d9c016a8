-- `frame_core::comparing::differing_below` meets its contract.
use Rattle.std.proofs.Common.{rules}
use Rattle.bits.proofs.Folding.{counting}
use Rattle.frame_spec.proofs.ByteLaws.{differs_low}
use Rattle.frame_spec.proofs.PilotLaws.{below_fits, below_done}
use Rattle.frame_core.proofs.comparing.differing_below.Goals as goal

pub loop-m-init : goal.loop-m-init
loop-m-init c = search (rules, counting, differs_low, below_fits, below_done)

pub overflow_add-n : goal.overflow_add-n
overflow_add-n c = search (rules, counting, differs_low, below_fits, below_done)

pub loop-m-preserved : goal.loop-m-preserved
loop-m-preserved c = search (rules, counting, differs_low, below_fits, below_done)
