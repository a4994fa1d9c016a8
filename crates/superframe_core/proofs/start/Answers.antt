-- `superframe_core::start` meets its contract.
use Rattle.std.proofs.Common.{rules}
use Rattle.superframe_spec.proofs.SuperframeLaws.{starting}
use Rattle.superframe_core.proofs.start.Goals as goal

pub returns-then-s-eq0 : goal.returns-then-s-eq0
returns-then-s-eq0 c = search (rules, starting)

pub returns-else-s-eq0 : goal.returns-else-s-eq0
returns-else-s-eq0 c = search (rules, starting)
