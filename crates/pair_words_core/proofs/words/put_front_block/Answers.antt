-- `pair_words_core::words::put_front_block` meets its contract: two bytes.
use Rattle.pair_words_core.specs.WordBytes.{front_block_is}
use Rattle.pair_words_core.proofs.words.put_front_block.Goals as goal

pub returns : goal.returns
returns c =
    front_block_is c.args.history.now c.args.w c.args.block c.args.out.now _ _ c.requires.3 c.front_byte.ensures c.front_byte-2.ensures
