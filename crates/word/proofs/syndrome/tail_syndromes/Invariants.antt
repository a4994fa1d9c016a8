-- The last 17 bits of a word, one after the other: specs/Partial.antt.
use Rattle.std.proofs.Common.{◌≤◌}
use Rattle.word_spec.specs.Checks.{tail}
use Rattle.word.specs.Partial.{Absorbing}
use Rattle.word.proofs.syndrome.tail_syndromes.Given as goal

abbrev pub invariant-loop-k : goal.invariant-loop-k
invariant-loop-k l = (239 ≤ l.k) × Absorbing (tail l.v) l.k l.s
