-- `loopback::sending::encode_part` meets its contract: the part lies in a run.
use Rattle.std.proofs.Common.{refl, length}
use Rattle.loopback.specs.LineLaws.{part_fits, part_end_fits, part_inside, part_whole, sent_part_lem}
use Rattle.loopback.proofs.sending.encode_part.Goals as goal

pub overflow_mul-a : goal.overflow_mul-a
overflow_mul-a c = part_fits _ _ _ c.requires.0 c.requires.1

pub overflow_add-a : goal.overflow_add-a
overflow_add-a c = part_end_fits _ _ _ c.requires.0 c.requires.1

pub slice_bounds-copy_from_slice-end : goal.slice_bounds-copy_from_slice-end
slice_bounds-copy_from_slice-end c = part_inside _ _ _ c.requires.0 c.requires.1 (length c.encode_again.new.coded) c.encode_again.array_long

pub copy_from_slice-requires : goal.copy_from_slice-requires
copy_from_slice-requires c = part_whole _ _ _ c.requires.0 c.requires.1 _ _ _ c.encode_again.array_long refl refl

pub returns : goal.returns
returns c = sent_part_lem _ _ _ _ _ _ _ _ c.requires.1 refl refl c.encode_again.ensures c.copy_from_slice.ensures.after
