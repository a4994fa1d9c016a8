-- A fresh history is that before pair 0.
use Rattle.pair_spec.proofs.FrontLaws.{before_fresh}
use Rattle.linereceive.proofs.receiving.Receiver.fresh.Goals as goal

pub invariant_of-result-clause-before : goal.invariant_of-result-clause-before
invariant_of-result-clause-before c = before_fresh _ _ c.fresh.ensures
