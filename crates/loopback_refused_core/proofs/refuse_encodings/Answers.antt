-- `loopback_refused_core::refuse_encodings` meets its contract: the calls of one pair a turn.
use Rattle.std.proofs.Common.{rules}
use Rattle.loopback_core.specs.StepLaws.{step_none, step_done}
use Rattle.loopback_core.specs.TallyLaws.{refused_more, number_known}
use Rattle.loopback_refused_core.proofs.refuse_encodings.Goals as goal

pub answered-requires : goal.answered-requires
answered-requires c = search (rules, number_known)

pub answered-requires-in-loop : goal.answered-requires-in-loop
answered-requires-in-loop c = search (rules, number_known)

pub loop-init : goal.loop-init
loop-init c = record { kept = search rules; counted = search (rules, step_none) }

pub loop-preserved : goal.loop-preserved
loop-preserved c = record { kept = search rules; counted = search (rules, refused_more) }

pub returns : goal.returns
returns c = (search rules, search (rules, step_done))
