-- `loopback::line::send` meets its contract.
use Rattle.std.proofs.Common.{rules}
use Rattle.loopback.specs.LineLaws.{line_made}
use Rattle.loopback.proofs.line.send.Goals as goal

pub returns : goal.returns
returns c = search (rules, line_made)
