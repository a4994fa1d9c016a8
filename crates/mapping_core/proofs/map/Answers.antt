-- `mapping_core::map` meets its contract, profile by profile.
use Rattle.std.proofs.Common.{rules}
use Rattle.profiles_spec.proofs.ProfileLaws.{by_profile, profile_fits}
use Rattle.mapping_core.proofs.map.Goals as goal

ruleset kit = (rules, by_profile, profile_fits)

pub map-requires : goal.map-requires
map-requires c = search kit

pub map-requires-in-Qpsk : goal.map-requires-in-Qpsk
map-requires-in-Qpsk c = search kit

pub returns-in-Qam16 : goal.returns-in-Qam16
returns-in-Qam16 c = search kit

pub returns-in-Qpsk : goal.returns-in-Qpsk
returns-in-Qpsk c = search kit
