-- `gf256::log` meets its contract: the array is the table of specs/Tables.antt.
use Rattle.std.proofs.Common.{◌≡◌, ap, ◌∙◌, get_or, arith}
use Rattle.gf256.specs.Tables.{logs}
use Rattle.gf256.proofs.PowerLaws.{log_of}
use Rattle.gf256.proofs.log.Goals as goal

pub returns : goal.returns
unfolding logs
returns c =
    let e : c.from-2.result ≡ get_or logs c.args.x 0 = c.from-2.ensures ∙ ap (λ k. get_or logs k 0) c.from.ensures in
    rw e (log_of c.args.x c.requires (omega arith))
