-- The pairs of the first buffers.
use Rattle.profiles_spec.specs.Profiles.{modulation}
use Rattle.superframe_spec.proofs.ApartLaws.{Parting}
use Rattle.superframe_buffers_core.proofs.part.Given as goal

abbrev pub invariant-loop-b : goal.invariant-loop-b
invariant-loop-b l =
    record {
      first : Parting (modulation l.profile) l.cells 0 l.b-end l.b l.pairs0;
      second : Parting (modulation l.profile) l.cells 1 l.b-end l.b l.pairs1;
    }
