-- `interleaver_core::rows::pairs_byte` meets its contract.
use Rattle.std.proofs.Common.{rules}
use Rattle.interleaver_spec.specs.Interleaving.{pairs_bit}
use Rattle.interleaver_core.proofs.rows.pairs_byte.Goals as goal

pub returns : goal.returns
unfolding pairs_bit
returns c = search rules
