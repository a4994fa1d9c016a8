-- `rows_core::rows::put_halves` meets its contract: row by row.
use Rattle.std.proofs.Common.{rules}
use Rattle.rows_core.specs.RowWords.{coded_half, coded_halves}
use Rattle.rows_core.proofs.rows.put_halves.Goals as goal

pub returns : goal.returns
unfolding coded_halves
returns c = rw c.requires.1 at (c.fill_parts.ensures (coded_half c.args.coded.now) (λ k p q l long e. search rules))
