-- `frame_core::layout::overhead_start` meets its contract.
use Rattle.std.proofs.Common.{arith}
use Rattle.frame_spec.proofs.LayoutLaws.{overhead_start_zeroth, overhead_start_other, own_within}
use Rattle.frame_core.proofs.layout.overhead_start.Goals as goal

pub returns-then-number-eq0 : goal.returns-then-number-eq0
returns-then-number-eq0 c = (omega (arith, overhead_start_zeroth c.args.number c.if-number-eq0.true, own_within c.args.number c.requires), omega (arith, overhead_start_zeroth c.args.number c.if-number-eq0.true, own_within c.args.number c.requires))

pub returns-else-number-eq0 : goal.returns-else-number-eq0
returns-else-number-eq0 c = (omega (arith, overhead_start_other c.args.number c.if-number-eq0.false, own_within c.args.number c.requires), omega (arith, overhead_start_other c.args.number c.if-number-eq0.false, own_within c.args.number c.requires))
