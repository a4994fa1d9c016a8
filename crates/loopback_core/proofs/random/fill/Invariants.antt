-- The bytes drawn so far, and the state.
use Rattle.std.proofs.Common.{length}
use Rattle.loopback_core.specs.RandomLaws.{Drawing}
use Rattle.loopback_core.proofs.random.fill.Given as goal

abbrev pub invariant-loop-byte : goal.invariant-loop-byte
invariant-loop-byte l = Drawing l.stream l.d (length l.fn.buffer) l.byte-index l.state l.buffer
