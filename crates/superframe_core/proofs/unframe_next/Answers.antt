-- `superframe_core::unframe_next` meets its contract.
use Rattle.std.proofs.Common.{rules}
use Rattle.superframe_spec.proofs.ApartLaws.{unframe_blocks}
use Rattle.superframe_core.proofs.unframe_next.Goals as goal

pub returns : goal.returns
returns c = (search (rules, unframe_blocks), search (rules, unframe_blocks))
