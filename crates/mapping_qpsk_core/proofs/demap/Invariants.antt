-- The bytes of the cells so far.
use Rattle.std.proofs.Common.{length}
use Rattle.bits.specs.Filling.{Filling}
use Rattle.cells_spec.specs.QpskBytes.{byte_at}
use Rattle.mapping_qpsk_core.proofs.demap.Given as goal

abbrev pub invariant-loop-i : goal.invariant-loop-i
invariant-loop-i l = Filling (byte_at l.cells) (length l.fn.bits) l.i l.bits
