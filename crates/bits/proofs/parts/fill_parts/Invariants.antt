use Rattle.std.proofs.Common.{ℕ, ◌/◌, length}
use Rattle.bits.specs.Filling.{Blocks}
use Rattle.bits.specs.PartCalls.{FillsParts}
use Rattle.bits.proofs.parts.fill_parts.Given as goal

abbrev pub invariant-loop-k : goal.invariant-loop-k
invariant-loop-k g l = (h : ℕ → _) → FillsParts g.F.Fn l.fill l.width (length l.initial.out) h → Blocks h l.width (length l.initial.out / l.width) l.k l.out
