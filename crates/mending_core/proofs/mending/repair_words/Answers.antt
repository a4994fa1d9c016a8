-- `mending::repair_words` meets its contract: both sets, one after the other.
use Rattle.std.proofs.Common.{◌≡◌, refl, ◌∙◌, arith}
use Rattle.bits.specs.Lists.{tabulate}
use Rattle.bits.specs.ListLaws.{is_tabulate}
use Rattle.bits.specs.Xor.{◌⊕◌}
use Rattle.mending_core.specs.MendingLaws.{handled_dirty, handled_all}
use Rattle.mending_core.proofs.mending.repair_words.Goals as goal

pub returns : goal.returns
unfolding ◌⊕◌
returns c =
    let k = c.fill.ensures in
    let none : c.fill.new.self ≡ tabulate 32 (λ w. 0) = is_tabulate 0 _ 32 (λ w. 0) (k.len ∙ c.requires.1) (λ i l. k.clones i 0 (omega arith) refl) in
    handled_all _ _ _ _ _ _ _ _ _ _ c.by_words.ensures (handled_dirty _ _ _ _ _ _ _ _ _ _ _ _ _ none c.repair_set.ensures.0 c.repair_set-2.ensures.0)
