-- Each turn counts a byte or more, and the last ends at most a block beyond 2^32.
use Rattle.std.proofs.Common.{◌-◌}
use Rattle.linehead.proofs.count_on.Given as goal

abbrev pub decreases-loop-count : goal.decreases-loop-count
decreases-loop-count g l = 4294967296 - l.count
