use Rattle.std.proofs.Common.{ℕ, ◌<◌, ◌^◌}
use Rattle.bits.proofs.Folding.{Gathering}
use Rattle.pair_words_core.specs.BitCalls.{GivesBits}
use Rattle.pair_words_core.proofs.bytes.byte_from.Given as goal

abbrev pub invariant-loop-i : goal.invariant-loop-i
invariant-loop-i g l = (l.byte < 2 ^ l.i) × ((f : ℕ → ℕ) → GivesBits g.F.Fn l.bit f → Gathering f 8 l.i l.byte)
