-- Four block rows after four.
use Rattle.bits.specs.Filling.{Filling}
use Rattle.interleaver_spec.specs.BlockBuffer.{joined_row}
use Rattle.interleaver_core.proofs.joining.put_rows.Given as goal

abbrev pub invariant-loop-x : goal.invariant-loop-x
invariant-loop-x l = Filling (joined_row l.pairs0 l.pairs1) 21 l.x l.rows
