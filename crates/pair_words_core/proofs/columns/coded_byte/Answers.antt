-- `pair_words_core::columns::coded_byte` meets its contract: its bits stand in one byte.
use Rattle.std.proofs.Common.{refl}
use Rattle.pair_words_core.specs.BackHalves.{coded_byte_is}
use Rattle.pair_words_core.proofs.columns.coded_byte.Goals as goal

pub returns : goal.returns
returns c = coded_byte_is c.args.rows.now c.args.j _ _ refl c.exchanged.ensures
