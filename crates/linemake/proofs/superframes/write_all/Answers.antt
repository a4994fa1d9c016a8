-- Fresh encoders are at the first pair of the first super-frame; behind a super-frame they are at that of the next.
use Rattle.std.specs.Prelude.{◌≡◌, ◌+◌}
use Rattle.std.proofs.Common.{arith, refl, sym, ◌∙◌}
use Rattle.pair_spec.proofs.FrontLaws.{both_numbered, both_at}
use Rattle.cells_spec.specs.Modulation.{pairs_in}
use Rattle.cells_spec.proofs.ModulationLaws.{pairs_none, pairs_after}
use Rattle.profiles_spec.specs.Profiles.{modulation}
use Rattle.linemake.proofs.superframes.write_all.Goals as goal

pub loop-q-init : goal.loop-q-init
loop-q-init g c =
    let first : c.fresh.result.next ≡ pairs_in (modulation c.args.profile) 0 = c.fresh.ensures.1 ∙ sym (pairs_none _) in
    let second : c.fresh-2.result.next ≡ pairs_in (modulation c.args.profile) 0 = c.fresh-2.ensures.1 ∙ sym (pairs_none _) in
    record {
      first = first;
      second = second ∙ sym first;
      most = omega (arith, c.fresh.ensures.1);
      both = both_numbered _ c.fresh.result.before c.fresh-2.result.before c.fresh.ensures.0 c.fresh-2.ensures.0 first second;
    }

pub loop-q-preserved : goal.loop-q-preserved
loop-q-preserved g c =
    let after = c.in_ok-write_next.ensures in
    let first : c.write_next.new.encoders.first.next ≡ pairs_in (modulation c.args.profile) (c.loop-q.q + 1)
    = after.0 ∙ pairs_after _ _ _ _ c.loop-q.invariant.first refl
    in
    record {
      first = first;
      second = after.2;
      most = omega (arith, after.1, c.loop-q.invariant.most);
      both = both_at _ _ after.3 first;
    }
