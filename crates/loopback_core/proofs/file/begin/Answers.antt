-- `loopback_core::file::begin` meets its contract: the header is written last, in front.
use Rattle.std.proofs.Common.{rules}
use Rattle.loopback_core.specs.FileLaws.{file_begun}
use Rattle.loopback_core.proofs.file.begin.Goals as goal

pub returns : goal.returns
returns c = file_begun c.args.file.now c.copy_from_slice.new.self c.write_header.new.header _ c.args.list.now c.write_header.result c.told-file c.copy_from_slice.ensures.after (search rules) c.write_header.ensures
