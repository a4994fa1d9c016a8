-- `loopback_core::noise::struck` meets its contract, profile by profile.
use Rattle.std.proofs.Common.{rules}
use Rattle.loopback_core.specs.NoiseLaws.{noise_by_profile}
use Rattle.loopback_core.proofs.noise.struck.Goals as goal

pub returns-in-Qam16 : goal.returns-in-Qam16
returns-in-Qam16 c = search (rules, noise_by_profile)

pub returns-in-Qpsk : goal.returns-in-Qpsk
returns-in-Qpsk c = search (rules, noise_by_profile)
