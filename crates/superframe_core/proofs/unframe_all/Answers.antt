-- `superframe_core::unframe_all` meets its contract: one sub-frame a turn.
use Rattle.std.proofs.Common.{rules}
use Rattle.bits.proofs.Folding.{counting}
use Rattle.superframe_spec.proofs.SuperframeLaws.{start_order}
use Rattle.superframe_spec.proofs.ApartLaws.{unframing_all}
use Rattle.superframe_spec.proofs.LentLaws.{cells_lent}
use Rattle.superframe_core.proofs.unframe_all.Goals as goal

pub slice_bounds-own-count : goal.slice_bounds-own-count
slice_bounds-own-count c = search (rules, start_order, unframing_all)

pub slice_bounds-own-start : goal.slice_bounds-own-start
slice_bounds-own-start c = search (rules, start_order, unframing_all)

pub slice_bounds-own-end : goal.slice_bounds-own-end
slice_bounds-own-end c = search (rules, start_order, unframing_all)

pub unframe_next-n-requires : goal.unframe_next-n-requires
unframe_next-n-requires c = search (rules, unframing_all, cells_lent)

pub overflow_add-n : goal.overflow_add-n
overflow_add-n c = search (rules, unframing_all)

pub loop-s-init : goal.loop-s-init
loop-s-init c = record { cells = search (rules, unframing_all); count = search (rules, counting) }

pub loop-s-preserved : goal.loop-s-preserved
loop-s-preserved c = record { cells = search (rules, unframing_all); count = search (rules, counting) }

pub returns : goal.returns
returns c = (search (rules, unframing_all), search (rules, counting, unframing_all))
