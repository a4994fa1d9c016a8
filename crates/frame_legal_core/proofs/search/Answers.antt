-- `frame_legal_core::search` meets its contract.
use Rattle.std.proofs.Common.{rules}
use Rattle.bits.specs.Seeking.{seek}
use Rattle.cells_spec.specs.Cells.{first_illegal}
use Rattle.cells_spec.proofs.FoundLaws.{is_found, not_found}
use Rattle.frame_spec.specs.Frames.{frame_rule}
use Rattle.frame_legal_core.proofs.search.Goals as goal

pub returns-then-is_illegal : goal.returns-then-is_illegal
unfolding first_illegal frame_rule
returns-then-is_illegal c = search (rules, seek, is_found)

pub loop-j-preserved : goal.loop-j-preserved
unfolding frame_rule
loop-j-preserved c = search (rules, seek)

pub returns : goal.returns
unfolding first_illegal
returns c = search (rules, seek, not_found)
