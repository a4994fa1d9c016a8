-- Four block rows after four.
use Rattle.std.proofs.Common.{rules}
use Rattle.bits.specs.Filling.{fill}
use Rattle.interleaver_spec.proofs.BlockBufferLaws.{joined_row_lem}
use Rattle.interleaver_core.proofs.joining.put_rows.Goals as goal

ruleset kit = (rules, fill, joined_row_lem)

pub loop-x-preserved : goal.loop-x-preserved
loop-x-preserved c = search kit

pub returns : goal.returns
returns c = search kit
