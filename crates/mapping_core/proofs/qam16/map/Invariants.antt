-- The cells of the symbols so far.
use Rattle.std.proofs.Common.{length}
use Rattle.bits.specs.Filling.{Blocks}
use Rattle.profiles_spec.proofs.Qam16Bytes.{cells_byte}
use Rattle.mapping_core.proofs.qam16.map.Given as goal

abbrev pub invariant-loop-i : goal.invariant-loop-i
invariant-loop-i l = Blocks (cells_byte l.bits) 2 (length l.bits) l.i l.cells
