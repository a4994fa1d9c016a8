-- `loopback::line::transmit` meets its contract.
use Rattle.std.proofs.Common.{rules}
use Rattle.loopback.specs.LineLaws.{line_carried, sent_carried}
use Rattle.loopback.proofs.line.transmit.Goals as goal

pub returns : goal.returns
returns c = sent_carried _ _ _ _ _ c.requires.4 c.requires.5 (line_carried _ _ _ _ _ _ _ _ _ _ _ _ c.send.ensures c.pass.ensures c.told-list c.requires.1 c.take_apart.ensures _ (search rules))
