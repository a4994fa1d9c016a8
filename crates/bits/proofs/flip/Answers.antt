-- `bits::flip` meets its contract: proofs/FlipLaws.antt.
use Rattle.std.proofs.Common.{rules}
use Rattle.bits.specs.Xor.{◌⊕◌}
use Rattle.bits.proofs.FlipLaws.{flip_byte}
use Rattle.bits.proofs.flip.Goals as goal

pub returns : goal.returns
unfolding ◌⊕◌
returns c = search (rules, flip_byte)
