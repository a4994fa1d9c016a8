-- `loopback_core::comparing::bit_kind` meets its contract.
use Rattle.std.proofs.Common.{rules}
use Rattle.loopback_core.specs.TallyLaws.{differs_is, kinds}
use Rattle.loopback_core.proofs.comparing.bit_kind.Goals as goal

pub returns : goal.returns
returns c = (search (rules, kinds, differs_is), search rules)
