-- `loopback_core::file::write` meets its contract.
use Rattle.loopback_core.specs.FileLaws.{file_sent}
use Rattle.loopback_core.proofs.file.write.Goals as goal

pub returns : goal.returns
returns c = file_sent c.args.file.now _ _ _ _ c.told-file c.copy_from_slice.ensures.after c.begin.ensures
