-- `loopback_core::comparing::count_bits` meets its contract: one bit a turn.
use Rattle.std.proofs.Common.{rules}
use Rattle.loopback_core.specs.StepLaws.{step_none}
use Rattle.loopback_core.specs.TallyLaws.{tallied_more, tallied_done}
use Rattle.loopback_core.proofs.comparing.count_bits.Goals as goal

pub loop-i-init : goal.loop-i-init
loop-i-init c = search (rules, step_none)

pub loop-i-preserved : goal.loop-i-preserved
loop-i-preserved c = tallied_more _ _ _ _ _ _ _ c.loop-i.invariant (search rules) c.bit_kind.ensures.0 c.add.ensures

pub returns : goal.returns
returns c = search (rules, tallied_done)
