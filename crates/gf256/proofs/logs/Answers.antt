-- `gf256::logs` meets its contract: the array is the table of specs/Tables.antt.
use Rattle.std.proofs.Common.{refl}
use Rattle.gf256.specs.Tables.{logs}
use Rattle.gf256.proofs.logs.Goals as goal

pub returns : goal.returns
unfolding logs
returns c = refl
