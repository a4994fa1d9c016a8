-- `gf256::powers` meets its contract: the array is the table of specs/Tables.antt.
use Rattle.std.proofs.Common.{refl}
use Rattle.gf256.specs.Tables.{powers}
use Rattle.gf256.proofs.powers.Goals as goal

pub returns : goal.returns
unfolding powers
returns c = refl
