-- `mapping_core::demap` meets its contract, profile by profile.
use Rattle.std.proofs.Common.{rules}
use Rattle.profiles_spec.proofs.ProfileLaws.{by_profile, profile_fits}
use Rattle.mapping_core.proofs.demap.Goals as goal

ruleset kit = (rules, by_profile, profile_fits)

pub demap-requires : goal.demap-requires
demap-requires c = search kit

pub demap-requires-in-Qpsk : goal.demap-requires-in-Qpsk
demap-requires-in-Qpsk c = search kit

pub returns-in-Qam16 : goal.returns-in-Qam16
returns-in-Qam16 c = search kit

pub returns-in-Qpsk : goal.returns-in-Qpsk
returns-in-Qpsk c = search kit
