-- Four bytes a number.
use Rattle.std.proofs.Common.{◌/◌, ◌%◌, length, get_or}
use Rattle.bits.specs.Filling.{Blocks}
use Rattle.bits.specs.Numbers32.{byte32}
use Rattle.bits.proofs.numbers.put_numbers.Given as goal

abbrev pub invariant-loop-k : goal.invariant-loop-k
invariant-loop-k l = Blocks (λ i. byte32 (get_or l.numbers (i / 4) 0) (i % 4)) 4 (length l.numbers) l.k l.bytes
