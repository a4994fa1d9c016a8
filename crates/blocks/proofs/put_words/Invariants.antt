-- The bytes of the words so far.
use Rattle.std.proofs.Common.{ℕ, ◌<◌, ◌+◌, ◌*◌, [], ◌∷◌, get_or}
use Rattle.blocks.proofs.put_words.Given as goal

abbrev pub invariant-loop-x : goal.invariant-loop-x
invariant-loop-x g l = (k : ℕ) → k < l.x → goal.F-post g l.bytes (get_or l.words k 0) (get_or l.out (2 * k) 0 ∷ get_or l.out (2 * k + 1) 0 ∷ [])
