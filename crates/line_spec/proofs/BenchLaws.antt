-- The bench values hold.
-- Assumes nothing.
use Rattle.std.specs.Prelude.{true}
use Rattle.word_spec.proofs.BenchValues.{only_238, two_flips_mark, two_flips_word, three_flips}
use Rattle.pair_spec.proofs.Bench.{word_20_0_first, word_20_0_last, word_21_5_119, in_no_front, payload_index_3087, payload_index_3551}
use Rattle.pair_spec.proofs.Bench.{payload_index_3552}
use Rattle.interleaver_spec.proofs.BenchValues as Output
use Rattle.profiles_spec.proofs.BenchValues.{bench_cells}
use Rattle.line_spec.specs.BenchValues.{BenchValues}

pub bench_values : BenchValues
bench_values =
    record {
      parity = only_238;
      two_flipped = two_flips_mark;
      two_repaired = two_flips_word;
      three_flipped = three_flips true;
      word_20_0_bit_0 = word_20_0_first;
      word_20_0_bit_127 = word_20_0_last;
      word_21_5_bit_119 = word_21_5_119;
      row_13_block_7 = in_no_front;
      payload_3087 = payload_index_3087;
      payload_3551 = payload_index_3551;
      payload_3552 = payload_index_3552;
      output_1 = (Output.output_bench_values).0;
      output_16 = (Output.output_bench_values).1;
      output_32 = (Output.output_bench_values).2;
      output_172031 = (Output.output_bench_values).3;
      cells = bench_cells;
    }
