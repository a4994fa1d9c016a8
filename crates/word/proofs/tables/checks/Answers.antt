-- `word::tables::checks` meets its contract: the array is the table of `word_spec`.
use Rattle.std.proofs.Common.{refl}
use Rattle.word_spec.specs.Checks.{checks}
use Rattle.word.proofs.tables.checks.Goals as goal

pub returns : goal.returns
unfolding checks
returns c = refl
