-- `completing_core::half` meets its contract.
use Rattle.std.proofs.Common.{refl}
use Rattle.completing_core.specs.Completing.{half_of}
use Rattle.completing_core.proofs.half.Goals as goal

pub returns : goal.returns
unfolding half_of
returns c = refl
