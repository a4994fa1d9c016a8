-- At most sixteen bytes are read, and each turn reads one or more.
use Rattle.std.proofs.Common.{◌-◌, ◌≤◌}
use Rattle.linehead.proofs.read_first.Given as goal

abbrev pub invariant-loop-done : goal.invariant-loop-done
invariant-loop-done g l = l.done ≤ 16

abbrev pub decreases-loop-done : goal.decreases-loop-done
decreases-loop-done g l = 16 - l.done
