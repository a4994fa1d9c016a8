-- `loopback_core::comparing::word_kind` meets its contract.
use Rattle.std.proofs.Common.{rules}
use Rattle.loopback_core.specs.TallyLaws.{kinds}
use Rattle.loopback_core.proofs.comparing.word_kind.Goals as goal

pub returns : goal.returns
returns c = (search (rules, kinds), search rules)
