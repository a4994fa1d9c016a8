-- `pair_words_core::words::own_byte` meets its contract: a byte as it stands, or eight bits.
use Rattle.std.proofs.Common.{◌+◌, ◌*◌, arith, rules}
use Rattle.bits.specs.Bits.{byte_of}
use Rattle.pair_words_core.specs.WordBytes.{own_bit, own_copied}
use Rattle.pair_words_core.proofs.words.own_byte.Goals as goal

pub returns-then-j-lt28 : goal.returns-then-j-lt28
returns-then-j-lt28 c = own_copied c.args.payload.now c.args.w c.args.j c.requires.0 (λ i. search rules) (omega arith) (omega arith) c.if-j-lt28.true

pub returns : goal.returns
unfolding byte_of
returns c = c.byte_from.ensures (λ k. own_bit c.args.payload.now c.args.w (c.args.j * 8 + k)) (λ k r l e. search rules)
