-- The cells of the bytes so far.
use Rattle.std.proofs.Common.{length}
use Rattle.bits.specs.Filling.{Blocks}
use Rattle.cells_spec.specs.QpskBytes.{cells_byte}
use Rattle.mapping_qpsk_core.proofs.map.Given as goal

abbrev pub invariant-loop-i : goal.invariant-loop-i
invariant-loop-i l = Blocks (cells_byte l.bits) 4 (length l.bits) l.i l.cells
