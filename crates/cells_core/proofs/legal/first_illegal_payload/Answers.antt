-- `cells_core::legal::first_illegal_payload` meets its contract, profile by profile; for 16-QAM the rule is that of overhead.
use Rattle.std.proofs.Common.{rules}
use Rattle.cells_spec.specs.Cells.{overhead_rule, payload_rule}
use Rattle.profiles_spec.specs.Profiles.{qam16}
use Rattle.profiles_spec.proofs.ProfileLaws.{by_profile}
use Rattle.cells_core.proofs.legal.first_illegal_payload.Goals as goal

pub returns-in-Qam16 : goal.returns-in-Qam16
unfolding qam16 payload_rule overhead_rule
returns-in-Qam16 c = search (rules, by_profile)

pub returns-in-Qpsk : goal.returns-in-Qpsk
returns-in-Qpsk c = search (rules, by_profile)
