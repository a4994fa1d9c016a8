-- `superframe::take` meets its contract.
use Rattle.std.proofs.Common.{ℕ, ◌∙◌}
use Rattle.std.proofs.Math.ListN.{length-replicate}
use Rattle.superframe_spec.proofs.ApartLaws.{taken_legal, taken_is}
use Rattle.superframe.proofs.take.Goals as goal

pub part-requires : goal.part-requires
part-requires c =
    record {
      cells_long = c.unframe_all-differing.auto.cells ∙ length-replicate {A = ℕ} 344064 0;
      cells_legal = taken_legal _ _ c.requires.1.frames_long c.requires.0.frames_legal _ c.unframe_all-differing.ensures.0;
      pairs0_long = c.requires.1.pairs0_long;
      pairs1_long = c.requires.1.pairs1_long;
    }

pub returns : goal.returns
returns c = taken_is _ _ _ _ _ _ _ c.unframe_all-differing.ensures.1 c.unframe_all-differing.ensures.0 c.part.ensures.0 c.part.ensures.1
