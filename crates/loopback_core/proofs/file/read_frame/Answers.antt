-- `loopback_core::file::read_frame` meets its contract: the stretch has 7,424 bytes where there is no refusal.
use Rattle.std.proofs.Common.{rules}
use Rattle.loopback_core.specs.FileLaws.{frame_read}
use Rattle.loopback_core.proofs.file.read_frame.Goals as goal

pub copy_from_slice-requires : goal.copy_from_slice-requires
copy_from_slice-requires c = search (rules, frame_read)

pub returns-then-refusal_of_frame-eq0 : goal.returns-then-refusal_of_frame-eq0
returns-then-refusal_of_frame-eq0 c = search (rules, frame_read)

pub returns-else-refusal_of_frame-eq0 : goal.returns-else-refusal_of_frame-eq0
returns-else-refusal_of_frame-eq0 c = search (rules, frame_read)
