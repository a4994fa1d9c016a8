-- `loopback::line::draw_list` meets its contract.
use Rattle.std.proofs.Common.{rules}
use Rattle.loopback_core.specs.RandomLaws.{list_drawn, drawn_legal}
use Rattle.loopback.proofs.line.draw_list.Goals as goal

pub returns : goal.returns
returns c = (search (rules, list_drawn), search (rules, drawn_legal))
