use Rattle.std.proofs.Common.{◌*◌}
use Rattle.payload_core.specs.NumberBits.{Digits, behind}
use Rattle.payload_core.specs.PayloadParts.{last_bit}
use Rattle.payload_core.proofs.last_sixty.Given as goal

abbrev pub invariant-loop-i : goal.invariant-loop-i
invariant-loop-i l = Digits 15 (behind (l.w * 15) (last_bit l.halves)) 4 l.i l.v
