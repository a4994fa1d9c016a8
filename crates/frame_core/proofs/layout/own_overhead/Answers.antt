-- `frame_core::layout::own_overhead` meets its contract.
use Rattle.std.proofs.Common.{rules}
use Rattle.frame_spec.proofs.ByteLaws.{own_part}
use Rattle.frame_core.proofs.layout.own_overhead.Goals as goal

pub returns : goal.returns
returns c = search (rules, own_part)
