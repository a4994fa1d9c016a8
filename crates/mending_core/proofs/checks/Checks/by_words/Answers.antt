-- `Checks::by_words` meets its contract: paired and transposed.
use Rattle.std.proofs.Common.{rules}
use Rattle.bits.proofs.FromFn.{from_fn_is}
use Rattle.gathering_spec.specs.Collecting.{paired_sum, paired_sums}
use Rattle.mending_core.specs.ByWords.{by_words_made}
use Rattle.mending_core.proofs.checks.Checks.by_words.Goals as goal

pub returns : goal.returns
unfolding paired_sums paired_sum
returns c =
    by_words_made c.args.self.now.sums _ _ (from_fn_is (paired_sum c.args.self.now.sums) (λ i y q l e. search rules) c.from_fn.ensures.items) c.transpose_eight.ensures
