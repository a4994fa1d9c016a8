-- `pair_words_core::bytes::byte_from` meets its contract: bit after bit.
use Rattle.std.proofs.Common.{◌*◌, ◌+◌, ◌%◌, arith, ap₂, pow-suc, add-one}
use Rattle.bits.specs.Bits.{from_bits}
use Rattle.bits.proofs.Folding.{gather_none, fold_more}
use Rattle.pair_words_core.proofs.bytes.byte_from.Goals as goal

pub loop-i-init : goal.loop-i-init
loop-i-init g c = (omega arith, λ f h. gather_none f 8)

pub loop-i-preserved : goal.loop-i-preserved
unfolding from_bits
loop-i-preserved g c =
    let l = c.loop-i in (
      rw add-one (omega (arith, pow-suc 2 l.i)),
      λ f h. fold_more _ (l.invariant.1 f h) c.loop-i-test.true (ap₂ (λ x y. x * 2 + y % 2) (l.invariant.1 f h).is (h l.i c.bit.result c.loop-i-test.true c.bit.ensures)),
    )
