-- `loopback::receiving::receive_all` meets its contract: one pair a turn.
use Rattle.std.proofs.Common.{rules}
use Rattle.std.proofs.Common.{◌∙◌}
use Rattle.pair_spec.proofs.FrontLaws.{before_is, before_kept, before_fresh}
use Rattle.loopback_core.specs.StepLaws.{step_none, step_done}
use Rattle.loopback.specs.StreamLaws.{before_none, before_pair, received_more}
use Rattle.loopback.proofs.receiving.receive_all.Goals as goal

pub receive_next-requires : goal.receive_next-requires
receive_next-requires c = (search rules, search (rules, before_kept))

pub loop-k-init : goal.loop-k-init
loop-k-init c =
    record {
      before = before_fresh _ _ c.fresh-history.ensures;
      history_is = before_none _ _ _ _ _ c.fresh-history.ensures;
      counted = search (rules, step_none);
    }

pub loop-k-preserved : goal.loop-k-preserved
loop-k-preserved c =
    let l = c.loop-k in
    let left = c.refuse_receiving.ensures in
    let made = c.receive_next.ensures in
    let next = before_pair _ _ _ _ _ _ (left.0 ∙ l.invariant.history_is) made.0 in
    record {
      before = before_is _ _ _ _ (search rules) next;
      history_is = next;
      counted = received_more _ _ _ _ _ _ _ _ _ _ l.invariant.counted (search rules) l.invariant.history_is left.0 left.1 made.1;
    }

pub returns : goal.returns
returns c = search (rules, step_done)
