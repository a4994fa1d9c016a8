use Rattle.bits.specs.Filling.{Blocks}
use Rattle.bits.specs.Parts.{part_of, byte_of_each}
use Rattle.pair_spec.specs.History.{depth}
use Rattle.pair_spec.specs.Front.{held_pairs}
use Rattle.pair_spec.specs.Encoding.{encoded}
use Rattle.pair_spec.specs.Stream.{pair_encoder, given_at}
use Rattle.pair_spec.proofs.StreamLaws.{Streaming}
use Rattle.pair_stream.proofs.encode.Given as goal

abbrev pub invariant-loop-k : goal.invariant-loop-k
invariant-loop-k l = record {
  coded : Blocks (byte_of_each 512 (given_at pair_encoder (held_pairs l.initial.history) l.first (part_of 444 l.payload) (encoded depth))) 512 l.pairs l.k l.coded;
  history : Streaming pair_encoder l.initial.history l.encoder l.first l.payload l.k l.history;
}
