-- `loopback::receiving::receive_next` meets its contract: the stream's history behind the pair, and what was made of it.
use Rattle.std.proofs.Common.{rules}
use Rattle.std.proofs.Common.{refl}
use Rattle.loopback.specs.StreamLaws.{step_history, pair_taken_lem}
use Rattle.loopback.proofs.receiving.receive_next.Goals as goal

pub returns : goal.returns
returns c = (
  step_history _ _ _ _ _ _ refl refl _ _ _ c.receive.ensures,
  pair_taken_lem _ _ _ _ _ _ refl refl _ _ _ c.receive.ensures _ _ _ (search rules) c.compare.ensures,
)
