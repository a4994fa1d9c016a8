-- `Checks::dirty` meets its contract: sum by sum.
use Rattle.std.specs.Prelude.{◌≡◌, fold}
use Rattle.std.proofs.Common.{bit_or, rules}
use Rattle.mending_core.proofs.Joined.{joined}
use Rattle.mending_core.proofs.checks.Checks.dirty.Goals as goal

pub returns : goal.returns
returns c =
    let s = c.args.self.now in
    let e : c.fold.result ≡ fold bit_or s.odd s.sums = search rules in
    joined s.odd s.sums (search rules) _ e
