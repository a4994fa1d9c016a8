-- `cells_core::legal::is_outer` meets its contract.
use Rattle.std.proofs.Common.{rules}
use Rattle.profiles_spec.proofs.QpskBytes.{tested_i, tested_q}
use Rattle.cells_core.proofs.legal.is_outer.Goals as goal

pub returns-then-v-ne1 : goal.returns-then-v-ne1
returns-then-v-ne1 c = search (rules, tested_i)

pub returns-else-v-ne1 : goal.returns-else-v-ne1
returns-else-v-ne1 c = search (rules, tested_q)
