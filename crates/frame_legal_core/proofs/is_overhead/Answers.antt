-- `frame_legal_core::is_overhead` meets its contract.
use Rattle.std.proofs.Common.{rules}
use Rattle.frame_spec.proofs.LegalLaws.{is_pilot, is_low}
use Rattle.frame_legal_core.proofs.is_overhead.Goals as goal

pub returns-then-m-eq0 : goal.returns-then-m-eq0
returns-then-m-eq0 c = search (rules, is_pilot)

pub returns-else-m-eq0 : goal.returns-else-m-eq0
returns-else-m-eq0 c = search (rules, is_low)
