-- The loop of `interleaver_core::joining::write_eight`: the bytes so far are written.
use Rattle.std.proofs.Common.{◌+◌, ◌*◌}
use Rattle.bits.specs.Filling.{Filling}
use Rattle.interleaver_spec.specs.BlockBuffer.{column_byte}
use Rattle.interleaver_core.proofs.joining.write_eight.Given as goal

abbrev pub invariant-loop-y : goal.invariant-loop-y
invariant-loop-y l = Filling (λ z. column_byte l.rows l.column (l.x * 8 + z)) 8 l.y l.out
