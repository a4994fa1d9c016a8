-- The line: the coded pairs of both encoders made into frames, damaged, and taken apart, over a profile.
-- Assumes nothing.
use Rattle.std.specs.Prelude.{◌≡◌, List, ℕ, ◌*◌}
use Rattle.profile.specs.declared.Profile.{Profile}
use Rattle.bits.specs.Parts.{end_to_end}
use Rattle.profiles_spec.specs.Profiles.{modulation}
use Rattle.superframe_spec.specs.Superframe.{superframe}
use Rattle.superframe_spec.specs.Apart.{taken_cells, taken_pairs, differing_all}
use Rattle.loopback_core.specs.Noise.{superframes_of, damaged}
use Rattle.loopback_core.specs.Steps.{each_step}
use Rattle.loopback_core.specs.Tally.{tally_sum}
use Rattle.loopback.specs.Sent.{sent_part}

-- The damaged frames of super-frame q, and the pairs of encoder e that come off the line.
unfoldable pub damaged_line : Profile → List ℕ → ℕ → List ℕ → List ℕ → List ℕ
damaged_line f list q coded0 coded1 = damaged f q (superframe (modulation f) coded0 coded1 list)

unfoldable pub pairs_off : Profile → List ℕ → ℕ → List ℕ
pairs_off f line e = taken_pairs (modulation f) (taken_cells line) e

-- What is known of both encoders' pairs that came off a line, and of the number of overhead cells that differ.
pub record Taken (f : Profile) (line list : List ℕ) (n : ℕ) (pairs0 pairs1 : List ℕ) : Type 0 where
  pub differing : n ≡ differing_all line list
  pub off0 : pairs0 ≡ pairs_off f line 0
  pub off1 : pairs1 ≡ pairs_off f line 1

-- The same line of what the encoders send; what comes off the super-frames of a run, end to end; and their differing overhead cells
-- counted, of one and of all.
unfoldable pub line_in : Profile → List ℕ → ℕ → List ℕ
line_in f list q = damaged_line f list q (sent_part f 0 q) (sent_part f 1 q)

unfoldable pub all_off : Profile → List ℕ → ℕ → List ℕ
all_off f list e = end_to_end (superframes_of (modulation f)) ((modulation f).bits * 10752) (λ q. pairs_off f (line_in f list q) e)

unfoldable pub line_counted : Profile → List ℕ → ℕ → List ℕ → List ℕ
line_counted f list q counts = tally_sum 7 (differing_all (line_in f list q) list) counts

unfoldable pub all_counted : Profile → List ℕ → List ℕ → List ℕ
all_counted f list counts = each_step (superframes_of (modulation f)) (line_counted f list) counts
