-- Exclusive or of two numbers of 64 bits has 64 bits.
use Rattle.std.proofs.Common.{refl}
use Rattle.bits.specs.Xor.{◌⊕◌}
use Rattle.bits.proofs.XorLaws.{⊕_lt}
use Rattle.bits.proofs.lanes.U64Lanes.xor.Goals as goal

pub returns : goal.returns
unfolding ◌⊕◌
returns c = (refl, ⊕_lt 64 c.args.self c.args.other c.ranges.self.fits c.ranges.other.fits)
