-- `cells_core::sizes::first_pair` meets its contract.
use Rattle.std.proofs.Common.{arith}
use Rattle.std.proofs.Math.Nat.{mul-le-mul}
use Rattle.cells_spec.specs.Modulation.{buffers_in}
use Rattle.cells_core.proofs.sizes.first_pair.Goals as goal

pub returns : goal.returns
unfolding buffers_in
returns c = (rw c.pairs.ensures.0 (omega arith), omega (arith, mul-le-mul c.requires c.pairs.ensures.2))
