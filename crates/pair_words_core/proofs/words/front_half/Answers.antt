-- `pair_words_core::words::front_half` meets its contract: zeros, or block by block.
use Rattle.std.proofs.Common.{◌∙◌, arith, rules}
use Rattle.bits.specs.Bits.{byte_of}
use Rattle.pair_words_core.specs.WordBytes.{front_stored, zero_half, stored_half}
use Rattle.pair_words_core.proofs.words.front_half.Goals as goal

pub returns-then-pair-lt10 : goal.returns-then-pair-lt10
returns-then-pair-lt10 c = zero_half c.args.history.now c.args.pair c.args.w c.requires.1 c.if-pair-lt10.true

pub returns : goal.returns
returns c =
    c.fill_parts.ensures (byte_of (front_stored c.args.history.now c.args.w)) (λ k p q l long e. search rules)
    ∙ stored_half c.args.history.now c.args.pair c.args.w c.requires.1 (omega arith)
