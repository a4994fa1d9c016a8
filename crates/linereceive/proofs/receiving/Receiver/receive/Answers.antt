-- The stream leaves the history before the next pair.
use Rattle.pair_spec.proofs.StreamLaws.{received_after}
use Rattle.linereceive.proofs.receiving.Receiver.receive.Goals as goal

pub invariant_of-self-clause-before : goal.invariant_of-self-clause-before
invariant_of-self-clause-before c = received_after _ _ c.args.self.now.before c.receive.ensures
