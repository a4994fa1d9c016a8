-- Two numbers a turn.
use Rattle.blocks.specs.Twos.{Twos}
use Rattle.riffle_core.specs.Riffles.{riffled_number}
use Rattle.riffle_core.proofs.riffle.Given as goal

abbrev pub invariant-loop-n : goal.invariant-loop-n
invariant-loop-n l = Twos (riffled_number l.fn.x) 64 l.n l.y
