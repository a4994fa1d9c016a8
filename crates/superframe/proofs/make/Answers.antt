-- `superframe::make` meets its contract.
use Rattle.std.proofs.Common.{ℕ, ◌∙◌}
use Rattle.std.proofs.Math.ListN.{length-replicate}
use Rattle.superframe_spec.proofs.SuperframeLaws.{payload_legal, superframe_is}
use Rattle.superframe.proofs.make.Goals as goal

pub frame_all-requires : goal.frame_all-requires
frame_all-requires c =
    record {
      cells_long = c.join.auto.cells ∙ length-replicate {A = ℕ} 344064 0;
      cells_legal = payload_legal _ _ _ _ c.join.ensures;
      overhead_long = c.requires.overhead_long;
      overhead_legal = c.requires.overhead_legal;
      frames_long = c.requires.frames_long;
    }

pub returns : goal.returns
returns c = superframe_is _ _ _ _ _ _ c.join.ensures c.frame_all.ensures
