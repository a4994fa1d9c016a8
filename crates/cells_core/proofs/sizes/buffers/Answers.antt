-- `cells_core::sizes::buffers` meets its contract, profile by profile.
use Rattle.std.proofs.Common.{rules}
use Rattle.profiles_spec.specs.Profiles.{qam16, qpsk}
use Rattle.profiles_spec.proofs.ProfileLaws.{by_profile}
use Rattle.cells_core.proofs.sizes.buffers.Goals as goal

pub returns-in-Qam16 : goal.returns-in-Qam16
unfolding qam16
returns-in-Qam16 c = search (rules, by_profile)

pub returns-in-Qpsk : goal.returns-in-Qpsk
unfolding qpsk
returns-in-Qpsk c = search (rules, by_profile)
