-- The symbols of the cells so far.
use Rattle.std.proofs.Common.{length}
use Rattle.bits.specs.Filling.{Filling}
use Rattle.profiles_spec.proofs.Qam16Bytes.{byte_at}
use Rattle.mapping_core.proofs.qam16.demap.Given as goal

abbrev pub invariant-loop-i : goal.invariant-loop-i
invariant-loop-i l = Filling (byte_at l.cells) (length l.fn.bits) l.i l.bits
