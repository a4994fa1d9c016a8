-- `loopback_core::file::read_frames` meets its contract: one sub-frame a part.
use Rattle.std.proofs.Common.{rules}
use Rattle.bits.specs.Parts.{byte_of_each}
use Rattle.line_file_spec.specs.Opening.{open_call}
use Rattle.line_file_spec.specs.Reading.{read_part_in}
use Rattle.loopback_core.specs.FileLaws.{file_frame_block, frames_whole}
use Rattle.loopback_core.proofs.file.read_frames.Goals as goal

pub returns : goal.returns
returns c =
    frames_whole _ c.requires _
    (rw c.told-frames at (c.fill_parts.ensures (byte_of_each 7424 (read_part_in (open_call c.args.file.now) 0)) (λ k p q l long e. file_frame_block _ c.requires k q.now p.now (search rules) (search rules))))
