-- `interleaver_core::joining::write_eight` meets its contract.
use Rattle.std.proofs.Common.{rules}
use Rattle.bits.specs.Filling.{fill}
use Rattle.interleaver_spec.proofs.BlockBufferLaws.{eight_byte}
use Rattle.interleaver_core.proofs.joining.write_eight.Goals as goal

pub loop-y-preserved : goal.loop-y-preserved
loop-y-preserved c = search (rules, fill, eight_byte)

pub returns : goal.returns
returns c = search (rules, fill)
