-- `completing_core::total` meets its contract: the sum of a list.
use Rattle.std.proofs.Common.{rules, ap, ◌∙◌, get_or}
use Rattle.std.proofs.lemmas.Iterator.{YieldsList-from_slice}
use Rattle.std.proofs.lemmas.Iterator.Consumers.{fold_from_yields_List}
use Rattle.bits.specs.Xor.{◌⊕◌, xor_sum}
use Rattle.bits.proofs.Folding.{sum_from_fold}
use Rattle.completing_core.proofs.total.Goals as goal

pub returns : goal.returns
unfolding ◌⊕◌
returns c =
    fold_from_yields_List _ ◌⊕◌ 0 _ c.fold.ensures.ran (YieldsList-from_slice c.args.b.now cc) (λ a x b q e. search rules)
    ∙ sum_from_fold (λ x. x) c.args.b.now 0 ∙ ap (λ n. xor_sum n (λ i. get_or c.args.b.now i 0)) c.told-b
