-- `loopback_core::file::pass` meets its contract.
use Rattle.loopback_core.specs.FileLaws.{file_whole, frames_kept}
use Rattle.loopback_core.proofs.file.pass.Goals as goal

pub read_frames-requires : goal.read_frames-requires
read_frames-requires c = file_whole _ _ _ c.write.ensures c.told-list c.write.array_long

pub returns : goal.returns
returns c = frames_kept _ _ _ c.write.ensures c.told-list c.write.array_long _ c.read_frames.ensures
