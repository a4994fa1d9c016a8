-- `levels_core::bit_level` meets its contract.
use Rattle.std.proofs.Common.{rules}
use Rattle.cells_spec.proofs.QpskLaws.{bit_zero, bit_one}
use Rattle.levels_core.proofs.bit_level.Goals as goal

pub returns-then-b-eq0 : goal.returns-then-b-eq0
returns-then-b-eq0 c = search (rules, bit_zero)

pub returns-else-b-eq0 : goal.returns-else-b-eq0
returns-else-b-eq0 c = bit_one c.args.b c.if-b-eq0.false
