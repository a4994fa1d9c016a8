-- `bits::numbers::put_numbers` meets its contract: the buffer is filled number after number.
use Rattle.std.proofs.Common.{refl, arith, length, ◌+◌, ◌*◌, ◌∙◌}
use Rattle.bits.specs.Filling.{blocks_next, blocks_done}
use Rattle.bits.proofs.Numbers32Laws.{bytes_written, bytes_filled}
use Rattle.bits.proofs.numbers.put_numbers.Goals as goal

pub loop-k-preserved : goal.loop-k-preserved
loop-k-preserved c =
    blocks_next (4 * c.loop-k.k) (4 * c.loop-k.k + 4) c.copy_from_slice.new.self c.loop-k.invariant c.loop-k-test.true (omega arith) refl
    (c.copy_from_slice.ensures.after ∙ c.to_be_bytes.ensures ∙ bytes_written c.args.numbers.now c.loop-k.k _ refl)

pub returns : goal.returns
returns c = bytes_filled _ _ (4 * length c.args.numbers.now) refl (blocks_done _ c.loop-k.invariant (omega arith) (omega arith))
