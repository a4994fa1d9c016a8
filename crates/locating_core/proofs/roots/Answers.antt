-- `locating_core::roots` meets its contract: the array is the table of specs/Roots.antt.
use Rattle.std.proofs.Common.{refl}
use Rattle.locating_core.specs.Roots.{rooted}
use Rattle.locating_core.proofs.roots.Goals as goal

pub returns : goal.returns
unfolding rooted
returns c = refl
