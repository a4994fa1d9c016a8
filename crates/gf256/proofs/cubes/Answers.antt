-- `gf256::cubes` meets its contract: the array is the table of specs/Tables.antt.
use Rattle.std.proofs.Common.{refl}
use Rattle.gf256.specs.Tables.{cubed}
use Rattle.gf256.proofs.cubes.Goals as goal

pub returns : goal.returns
unfolding cubed
returns c = refl
