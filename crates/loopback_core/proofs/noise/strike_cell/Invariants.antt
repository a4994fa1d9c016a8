-- The sub-frames struck so far.
use Rattle.loopback_core.specs.StepLaws.{Stepping}
use Rattle.loopback_core.specs.Noise.{strike_cell}
use Rattle.loopback_core.proofs.noise.strike_cell.Given as goal

abbrev pub invariant-loop-s : goal.invariant-loop-s
invariant-loop-s l = Stepping (strike_cell l.profile l.cell) l.n l.fn.line l.s l.line
