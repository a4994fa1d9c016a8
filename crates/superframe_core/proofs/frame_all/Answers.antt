-- `superframe_core::frame_all` meets its contract: one sub-frame a part.
use Rattle.std.proofs.Common.{rules}
use Rattle.bits.specs.Parts.{byte_of_each}
use Rattle.superframe_spec.specs.Superframe.{sub_frame}
use Rattle.superframe_spec.proofs.SuperframeLaws.{frame_block, frames_are}
use Rattle.superframe_core.proofs.frame_all.Goals as goal

pub returns : goal.returns
returns c =
    let cells = c.args.cells.now in
    let overhead = c.args.overhead.now in
    frames_are cells overhead _
    (rw c.requires.frames_long at (c.fill_parts.ensures (byte_of_each 7424 (sub_frame cells overhead)) (λ k p q l long e. frame_block cells overhead k q.now (search rules))))
