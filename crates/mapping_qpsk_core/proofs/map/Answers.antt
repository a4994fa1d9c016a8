-- `mapping_qpsk_core::map` meets its contract: the cells are filled four bytes at a time.
use Rattle.std.proofs.Common.{rules, ap, slice_index_or}
use Rattle.bits.specs.Lists.{tabulate}
use Rattle.profiles_spec.proofs.QpskBytes.{by_filled_cells, filled_four}
use Rattle.mapping_qpsk_core.proofs.map.Goals as goal

pub loop-i-preserved : goal.loop-i-preserved
unfolding tabulate
loop-i-preserved c =
    let e = c.quarters.ensures in
    filled_four c.args.bits.now _ _ _ _ c.loop-i.invariant c.loop-i-test.true (ap (λ x. slice_index_or x 0 0) e) (ap (λ x. slice_index_or x 1 0) e) (ap (λ x. slice_index_or x 2 0) e) (ap (λ x. slice_index_or x 3 0) e)

pub returns : goal.returns
returns c = search (rules, by_filled_cells)
