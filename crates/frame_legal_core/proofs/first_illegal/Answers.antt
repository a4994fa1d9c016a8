-- `frame_legal_core::first_illegal` meets its contract, profile by profile.
use Rattle.std.proofs.Common.{rules}
use Rattle.profiles_spec.proofs.ProfileLaws.{by_profile}
use Rattle.frame_spec.proofs.LegalLaws.{flat_found}
use Rattle.frame_legal_core.proofs.first_illegal.Goals as goal

pub returns-in-Qam16 : goal.returns-in-Qam16
returns-in-Qam16 c = search (rules, flat_found)

pub returns-in-Qpsk : goal.returns-in-Qpsk
returns-in-Qpsk c = search (rules, by_profile)
