-- `permutation_core::cross_stage` meets its contract.
use Rattle.std.proofs.Common.{rules, ◌≡◌, ◌*◌, ◌/◌, arith}
use Rattle.bits.proofs.FromFn.{from_fn_maps}
use Rattle.blocks.specs.Moves.{moved_in}
use Rattle.permutation_core.specs.Stages.{cross_word, cross_stage}
use Rattle.permutation_core.proofs.cross_stage.Goals as goal

pub returns : goal.returns
unfolding cross_stage cross_word moved_in
returns g c =
    let e : 2 * (g.row.N / 2) ≡ g.row.N = omega (arith, c.requires) in
    rw e (from_fn_maps _ _ (λ i y q l e. search rules) c.from_fn.ensures.items)
