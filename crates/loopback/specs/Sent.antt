-- What an encoder sends in a run: 336 coded pairs, in two halves of 168.
-- Assumes nothing.
use Rattle.std.specs.Prelude.{List, ℕ, ◌*◌}
use Rattle.profile.specs.declared.Profile.{Profile}
use Rattle.bits.specs.Parts.{part_of, end_to_end}
use Rattle.profiles_spec.specs.Profiles.{modulation}
use Rattle.pair_spec.specs.Stream.{pair_encoder, coded_of, history_before}
use Rattle.loopback_core.specs.Random.{payload_in}
use Rattle.loopback_core.specs.Steps.{each_step}
use Rattle.loopback_core.specs.Tally.{refused_two}

-- The coded pairs of half q of encoder e, from fresh on half by half.
unfoldable pub sent_in : ℕ → ℕ → List ℕ
sent_in e q = coded_of 168 (history_before pair_encoder 168 (payload_in e) q) (168 * q) (payload_in e q)

-- Those of super-frame q.
unfoldable pub sent_part : Profile → ℕ → ℕ → List ℕ
sent_part f e q = part_of ((modulation f).bits * 10752) (end_to_end 2 86016 (sent_in e)) q

-- What is counted of a half: the refused calls before each of its pairs.
abbrev pub half_sent : List ℕ → List ℕ
half_sent counts = each_step 168 (λ k. refused_two) counts
