-- `loopback::line::carry` meets its contract.
use Rattle.loopback.specs.LineLaws.{off_list, counted_list}
use Rattle.loopback.proofs.line.carry.Goals as goal

pub returns : goal.returns
returns c = (off_list _ _ _ c.draw_list.ensures.0 _ _ c.carry_all.ensures.0, counted_list _ _ _ c.draw_list.ensures.0 _ _ _ c.refuse_framing.ensures c.carry_all.ensures.1)
