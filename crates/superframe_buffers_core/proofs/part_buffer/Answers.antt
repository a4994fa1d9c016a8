-- `superframe_buffers_core::part_buffer` meets its contract: its cells lie in the payload.
use Rattle.std.proofs.Common.{rules}
use Rattle.superframe_spec.proofs.SuperframeLaws.{buffer_sizes}
use Rattle.superframe_spec.proofs.ApartLaws.{part_blocks}
use Rattle.superframe_buffers_core.proofs.part_buffer.Goals as goal

pub overflow_mul-a : goal.overflow_mul-a
overflow_mul-a c = search (rules, buffer_sizes)

pub overflow_add-a : goal.overflow_add-a
overflow_add-a c = search (rules, buffer_sizes)

pub slice_bounds-cells_to_bits-end : goal.slice_bounds-cells_to_bits-end
slice_bounds-cells_to_bits-end c = search (rules, buffer_sizes)

pub returns : goal.returns
returns c = (search (rules, part_blocks), search (rules, part_blocks))
