-- The stream leaves the history before the next pair.
use Rattle.pair_spec.proofs.StreamLaws.{encoded_after}
use Rattle.linemake.proofs.encoders.Encoder.encode.Goals as goal

pub invariant_of-self-clause-before : goal.invariant_of-self-clause-before
invariant_of-self-clause-before c = encoded_after _ _ c.args.self.now.before c.encode.ensures
