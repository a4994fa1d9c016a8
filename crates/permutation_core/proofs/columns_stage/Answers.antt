-- `permutation_core::columns_stage` meets its contract.
use Rattle.std.proofs.Common.{rules}
use Rattle.bits.proofs.FromFn.{from_fn_is}
use Rattle.blocks.specs.Block.{block}
use Rattle.permutation_core.proofs.columns_stage.Goals as goal

pub returns : goal.returns
unfolding block
returns c = from_fn_is _ (λ i y q l e. search rules) c.from_fn.ensures.items
