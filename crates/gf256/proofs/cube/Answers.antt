-- `gf256::cube` meets its contract: the array is the table of specs/Tables.antt.
use Rattle.std.proofs.Common.{ap, ◌∙◌, get_or, arith}
use Rattle.gf256.specs.Tables.{cubed}
use Rattle.gf256.proofs.PowerLaws.{cubed_at}
use Rattle.gf256.proofs.cube.Goals as goal

pub returns : goal.returns
unfolding cubed
returns c = ap (λ k. get_or cubed k 0) c.from.ensures ∙ cubed_at c.args.x (omega arith)
