-- The cells struck so far, of their number.
use Rattle.std.proofs.Common.{◌≡◌, ◌*◌}
use Rattle.profiles_spec.specs.Profiles.{modulation}
use Rattle.loopback_core.specs.StepLaws.{Stepping}
use Rattle.loopback_core.specs.Noise.{strike}
use Rattle.loopback_core.proofs.noise.strike.Given as goal

abbrev pub invariant-loop-v : goal.invariant-loop-v
invariant-loop-v l =
    record { number : l.n ≡ (modulation l.profile).bits * 10; struck : Stepping (strike l.profile l.q) l.n l.fn.line l.v l.line }
