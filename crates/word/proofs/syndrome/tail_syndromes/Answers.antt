-- `syndrome::tail_syndromes` meets its contract: the last 17 bits, one after the other.
use Rattle.std.proofs.Common.{sym, arith}
use Rattle.bits.specs.Xor.{◌⊕◌}
use Rattle.word.specs.Partial.{absorb_zero, absorb_one, absorb_done}
use Rattle.word.specs.Checking.{absorb_tail, tail_bit}
use Rattle.word.proofs.syndrome.tail_syndromes.Goals as goal
use Rattle.word.proofs.syndrome.tail_syndromes.Goals.{then-v-k-eq1, else-v-k-eq1}

pub loop-k-init : goal.loop-k-init
loop-k-init c = (omega arith, absorb_tail c.args.v)

pub loop-k-preserved : goal.loop-k-preserved
unfolding ◌⊕◌
loop-k-preserved c =
    let h = c.loop-k.invariant in (
      omega arith,
      elim c.if-v-k-eq1.branch [
        | then-v-k-eq1 w ↦ rw w.s-is
            (absorb_one _ _ _ h.1 c.loop-k-test.true _ _ (sym (tail_bit c.args.v c.loop-k.k 1 h.0 (sym w.if-v-k-eq1.true))) w.locator-x.ensures w.cube.ensures)
        | else-v-k-eq1 w ↦ rw w.s-is
            (absorb_zero _ _ _ h.1 c.loop-k-test.true (sym (tail_bit c.args.v c.loop-k.k 0 h.0 (omega (arith, w.if-v-k-eq1.false)))))
      ],
    )

pub returns : goal.returns
returns c = absorb_done c.loop-k.invariant.1 c.loop-k-test.false
