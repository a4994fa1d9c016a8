-- `superframe_core::sub_frame` meets its contract: its cells lie in the payload.
use Rattle.std.proofs.Common.{rules}
use Rattle.superframe_spec.proofs.SuperframeLaws.{sub_frame_placing}
use Rattle.superframe_core.proofs.sub_frame.Goals as goal

pub slice_bounds-own-count : goal.slice_bounds-own-count
slice_bounds-own-count c = search (rules, sub_frame_placing)

pub slice_bounds-own-start : goal.slice_bounds-own-start
slice_bounds-own-start c = search (rules, sub_frame_placing)

pub slice_bounds-own-end : goal.slice_bounds-own-end
slice_bounds-own-end c = search (rules, sub_frame_placing)

pub returns : goal.returns
returns c = search (rules, sub_frame_placing)
