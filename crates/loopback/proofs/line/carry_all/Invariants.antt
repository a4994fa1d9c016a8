-- The super-frames carried so far.
use Rattle.loopback.specs.LineLaws.{Carrying}
use Rattle.loopback.proofs.line.carry_all.Given as goal

abbrev pub invariant-loop-q : goal.invariant-loop-q
invariant-loop-q l = Carrying l.profile l.list l.encoder.number l.fn.counts l.q-end l.n l.q l.got l.counts
