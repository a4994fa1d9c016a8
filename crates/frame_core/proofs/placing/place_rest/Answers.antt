-- `frame_core::placing::place_rest` meets its contract.
use Rattle.std.proofs.Common.{rules}
use Rattle.frame_spec.proofs.RunLaws.{by_framing}
use Rattle.frame_core.proofs.placing.place_rest.Goals as goal

pub copy-requires-2 : goal.copy-requires-2
copy-requires-2 c = search (rules, by_framing)

pub returns : goal.returns
returns c = search (rules, by_framing)
