-- `locating::confine` meets its contract: one law for each branch.
use Rattle.locating_core.proofs.Telling.{confined_none, confined_kept, confined_lost}
use Rattle.locating_core.proofs.locating.confine.Goals as goal

pub returns-in-Sound : goal.returns-in-Sound
returns-in-Sound c = confined_none _ _ c.in-Sound.is

pub returns-then-i-ge128 : goal.returns-then-i-ge128
returns-then-i-ge128 c = rw c.in-One.r-is (confined_kept _ _ _ c.in-One.is c.if-i-ge128.either)

pub returns-else-i-ge128 : goal.returns-else-i-ge128
returns-else-i-ge128 c = confined_lost _ _ _ c.in-One.is c.if-i-ge128.false
