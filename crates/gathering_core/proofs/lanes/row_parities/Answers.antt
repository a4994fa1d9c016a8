-- `gathering_core::lanes::row_parities` meets its contract: a sum over the pairs of numbers.
use Rattle.std.proofs.Common.{rules, ap, ◌∙◌, arith, length, ◌≡◌, get_or, ℕ}
use Rattle.std.specs.List.{zip}
use Rattle.std.proofs.lemmas.Iterator.{YieldsList-from_slice, YieldsList-from_zip}
use Rattle.std.proofs.lemmas.Iterator.Consumers.{fold_from_yields_List}
use Rattle.std.proofs.lemmas.Slice.Zip.{length-zip, get_or-zip}
use Rattle.bits.specs.Xor.{◌⊕◌, xor_sum}
use Rattle.bits.proofs.Folding.{sum_from_fold}
use Rattle.bits.proofs.XorLaws.{xor_sum_ext}
use Rattle.gathering_core.proofs.lanes.row_parities.Goals as goal

pub returns : goal.returns
unfolding ◌⊕◌
returns c =
    fold_from_yields_List _ (λ p x. p ⊕ (x.0 ⊕ x.1)) 0 _ c.fold.ensures.ran
    (YieldsList-from_zip (YieldsList-from_slice c.args.x.now cc) (YieldsList-from_slice c.args.y.now cc))
    (λ a x b q e. search rules)
    ∙ sum_from_fold (λ x. x.0 ⊕ x.1) (zip c.args.x.now c.args.y.now) (0, 0)
    ∙ (let n : length (zip c.args.x.now c.args.y.now) ≡ 128 = omega (arith, length-zip c.args.x.now c.args.y.now, c.told-x, c.told-y) in
    ap (λ n. xor_sum n (λ i. (get_or (zip c.args.x.now c.args.y.now) i (0, 0)).0 ⊕ (get_or (zip c.args.x.now c.args.y.now) i (0, 0)).1)) n)
    ∙ xor_sum_ext 128 _ _ (λ k l. ap (λ (x : ℕ × ℕ). x.0 ⊕ x.1) (get_or-zip c.args.x.now c.args.y.now k (0, 0) (omega (arith, c.told-x)) (omega (arith, c.told-y))))
