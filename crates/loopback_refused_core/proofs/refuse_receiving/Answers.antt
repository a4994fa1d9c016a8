-- `loopback_refused_core::refuse_receiving` meets its contract.
use Rattle.std.proofs.Common.{rules}
use Rattle.loopback_core.specs.TallyLaws.{two_answered, number_known}
use Rattle.loopback_refused_core.proofs.refuse_receiving.Goals as goal

pub answered-requires : goal.answered-requires
answered-requires c = search (rules, number_known)

pub answered-requires-2 : goal.answered-requires-2
answered-requires-2 c = search (rules, number_known)

pub returns : goal.returns
returns c = (search rules, search (rules, two_answered))
