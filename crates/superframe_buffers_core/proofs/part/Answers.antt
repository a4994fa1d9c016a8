-- `superframe_buffers_core::part` meets its contract: one buffer a turn.
use Rattle.std.proofs.Common.{rules}
use Rattle.superframe_spec.proofs.ApartLaws.{parting}
use Rattle.superframe_spec.proofs.LentLaws.{pairs_lent}
use Rattle.superframe_buffers_core.proofs.part.Goals as goal

pub part_buffer-requires : goal.part_buffer-requires
part_buffer-requires c = (search rules, pairs_lent _ _ _ c.requires (search (rules, parting)) (search (rules, parting)))

pub loop-b-preserved : goal.loop-b-preserved
loop-b-preserved c = record { first = search (rules, parting); second = search (rules, parting) }

pub returns : goal.returns
returns c = (search (rules, parting), search (rules, parting))
