-- `Words::next` meets its contract.
use Rattle.std.proofs.Common.{refl, arith}
use Rattle.mending_core.specs.Sets.{first_is, first_room, removed_is}
use Rattle.mending_core.proofs.words.WordsIterator.next.Goals as goal

pub overflow_sub-self-2 : goal.overflow_sub-self-2
overflow_sub-self-2 c =
    let f = first_is c.args.self.now.0 _ (omega arith) (omega arith) refl in
    first_room _ _ f.0 f.1

pub returns-clause-steps : goal.returns-clause-steps
returns-clause-steps c =
    let f = first_is c.args.self.now.0 _ (omega arith) (omega arith) refl in
    (f.0, f.1, removed_is _ _ f.0 f.1)
