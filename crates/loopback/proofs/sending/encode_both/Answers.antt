-- `loopback::sending::encode_both` meets its contract: one half a turn.
use Rattle.std.proofs.Common.{rules}
use Rattle.std.proofs.Common.{◌∙◌, ◌*◌, ◌+◌, refl}
use Rattle.bits.specs.Filling.{by_blocks, blocks_next}
use Rattle.bits.proofs.PartLaws.{part_long, is_end_to_end}
use Rattle.pair_spec.proofs.FrontLaws.{before_is, before_kept, before_fresh}
use Rattle.loopback_core.specs.StepLaws.{step_none, step_more, step_done}
use Rattle.loopback.specs.StreamLaws.{before_none, before_more, half_block_lem}
use Rattle.loopback.proofs.sending.encode_both.Goals as goal

pub encode_next-requires : goal.encode_next-requires
encode_next-requires c = (search rules, search (rules, before_kept), search (rules, part_long))

pub loop-q-init : goal.loop-q-init
loop-q-init c =
    record {
      before = before_fresh _ _ c.fresh-history.ensures;
      filled = search (rules, by_blocks);
      history_is = before_none _ _ _ _ _ c.fresh-history.ensures;
      counted = search (rules, step_none);
    }

pub loop-q-preserved : goal.loop-q-preserved
loop-q-preserved c =
    let l = c.loop-q in
    let left = c.refuse_encodings.ensures in
    let made = c.encode_next.ensures in
    let next = before_more _ _ _ _ _ _ _ _ _ (left.0 ∙ l.invariant.history_is) refl (search rules) made.1 in
    record {
      before = before_is _ _ _ _ (search rules) next;
      filled = blocks_next {d = l.coded} (l.q * 86016) (l.q * 86016 + 86016) _ l.invariant.filled (search rules) refl refl
          (half_block_lem _ _ _ _ _ l.invariant.history_is left.0 made.0);
      history_is = next;
      counted = step_more _ l.invariant.counted (search rules) left.1;
    }

pub returns : goal.returns
returns c = (search (rules, by_blocks, is_end_to_end), search (rules, step_done))
