-- `cells_core::legal::first_reaching` meets its contract.
use Rattle.std.proofs.Common.{[], length, subst, rules, arith}
use Rattle.std.proofs.lemmas.Fn.{fold_over, fronts, slice_gives}
use Rattle.bits.specs.Seeking.{seek_more, seek_hit, seek_all}
use Rattle.cells_spec.specs.Cells.{first_illegal}
use Rattle.cells_spec.specs.Highest.{Highest}
use Rattle.cells_spec.proofs.FoundLaws.{is_found, not_found}
use Rattle.cells_spec.proofs.Highest.{highest_none, highest_put, none_reaches}
use Rattle.cells_core.proofs.legal.first_reaching.Goals as goal

pub returns-then-highest-limit : goal.returns-then-highest-limit
returns-then-highest-limit g c h e =
    none_reaches c.args.limit
    (subst (λ s. Highest h s (length s) c.fold-highest.result) c.iter.ensures.rest
    (fold_over fronts (λ y. y.now) _ (λ s. Highest h s (length s)) _ (λ ys a x b q j k. (highest_put x.now b j (search (rules, e)), search rules)) c.iter.result _ _ _ (slice_gives c.iter.result)
    (highest_none h [] 0) c.fold-highest.ensures.ran))
    c.if-highest-limit.true

pub returns-then-limit-height : goal.returns-then-limit-height
unfolding first_illegal
returns-then-limit-height g c h e =
    is_found _ _ _ (seek_hit (c.loop-i.invariant h e) c.loop-i-test.true (search (rules, e))) c.loop-i-test.true

pub loop-i-preserved : goal.loop-i-preserved
loop-i-preserved g c h e = seek_more (c.loop-i.invariant h e) c.loop-i-test.true (search (rules, e))

pub returns : goal.returns
unfolding first_illegal
returns g c h e = not_found _ _ (omega (arith, seek_all (c.loop-i.invariant h e) c.loop-i-test.false))
