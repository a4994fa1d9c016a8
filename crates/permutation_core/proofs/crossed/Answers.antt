-- `permutation_core::crossed` meets its contract: bit by bit.
use Rattle.bits.specs.Xor.{◌⊕◌}
use Rattle.permutation_core.specs.StageLaws.{made_first, made_second}
use Rattle.permutation_core.proofs.crossed.Goals as goal

pub returns-clause-first : goal.returns-clause-first
unfolding ◌⊕◌
returns-clause-first g c =
    let laws = g.met.T.Lanes in
    made_first _ _ _ _ _ c.args.columns.now.apart.0 _ _ _
    (laws.shift_right_is _ _ _ c.shr.ensures) c.xor.ensures.0 (laws.and_is _ _ _ c.bitand-d.ensures) _ c.xor-2.ensures.0 c.xor-2.ensures.1

pub returns-clause-second : goal.returns-clause-second
unfolding ◌⊕◌
returns-clause-second g c =
    let laws = g.met.T.Lanes in
    made_second _ _ _ _ _ c.args.columns.now.apart.0 _ _ _
    (laws.shift_right_is _ _ _ c.shr.ensures) c.xor.ensures.0 (laws.and_is _ _ _ c.bitand-d.ensures) _ _
    (laws.shift_left_is _ _ _ c.shl.ensures) c.xor-3.ensures.0 c.xor-3.ensures.1
