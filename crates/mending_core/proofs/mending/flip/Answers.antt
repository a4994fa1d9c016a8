-- `mending::flip` meets its contract, in the halves and in the coded pair.
use Rattle.std.proofs.Common.{◌/◌, ◌%◌, refl, arith, rules}
use Rattle.bits.specs.Xor.{◌⊕◌}
use Rattle.bits.proofs.XorLaws.{⊕_lt}
use Rattle.mending_core.specs.MendingLaws.{flip_number_if, flipped_set, buffer_flip, coded_set}
use Rattle.mending_core.proofs.mending.flip.Goals as goal

pub returns : goal.returns
unfolding ◌⊕◌
returns c =
    let k = c.args.k in
    let x = ⊕_lt 4 (k % 16) (c.args.w % 16) (omega arith) (omega arith) in (
      flipped_set c.args.w k _ _ _ (k / 128) _ c.requires.2 refl refl (omega arith) (flip_number_if _ _ (k / 128) (search rules) (omega arith) (omega arith)),
      coded_set c.args.w k _ _ (k / 128) _ _ c.requires.2 refl (omega arith) (omega arith) (buffer_flip _ _ (k / 128) (omega (arith, x)) (λ j. search rules) (omega arith)),
    )
