-- `frame_core::layout::overhead_cells` meets its contract.
use Rattle.std.proofs.Common.{arith}
use Rattle.frame_spec.proofs.LayoutLaws.{sizes_zeroth, sizes_other}
use Rattle.frame_core.proofs.layout.overhead_cells.Goals as goal

pub returns-then-number-eq0 : goal.returns-then-number-eq0
returns-then-number-eq0 c = omega (arith, sizes_zeroth c.if-number-eq0.true)

pub returns-else-number-eq0 : goal.returns-else-number-eq0
returns-else-number-eq0 c = omega (arith, sizes_other c.if-number-eq0.false)
