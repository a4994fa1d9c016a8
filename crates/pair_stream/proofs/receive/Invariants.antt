use Rattle.bits.specs.Filling.{Blocks}
use Rattle.bits.specs.Parts.{part_of, byte_of_each}
use Rattle.pair_spec.specs.History.{depth}
use Rattle.pair_spec.specs.Front.{held_pairs}
use Rattle.pair_spec.specs.Receiving.{payload_out, marks as pair_marks}
use Rattle.pair_spec.specs.Stream.{pair_receiver, given_at}
use Rattle.pair_spec.proofs.StreamLaws.{Streaming}
use Rattle.pair_stream.proofs.receive.Given as goal

abbrev pub invariant-loop-k : goal.invariant-loop-k
invariant-loop-k l = record {
  payload : Blocks (byte_of_each 444 (given_at pair_receiver (held_pairs l.initial.history) l.first (part_of 512 l.coded) (payload_out depth))) 444 l.pairs l.k l.payload;
  marks : Blocks (byte_of_each 32 (given_at pair_receiver (held_pairs l.initial.history) l.first (part_of 512 l.coded) (pair_marks depth))) 32 l.pairs l.k l.marks;
  history : Streaming pair_receiver l.initial.history l.encoder l.first l.coded l.k l.history;
}
