-- `interleaver_core::taking_apart::line_word` meets its contract.
use Rattle.std.proofs.Common.{ℕ, ◌<◌, get_or, rules, arith}
use Rattle.interleaver_spec.proofs.BlockBufferLaws.{line_word}
use Rattle.interleaver_core.proofs.taking_apart.line_word.Goals as goal

pub returns : goal.returns
returns c =
    let bytes : (k : ℕ) → get_or c.args.bits.now k 0 < 256 = λ k. omega (arith, c.type_inv.bits k) in
    line_word c.args.bits.now c.args.k c.args.block c.args.j c.output_byte-at.result _ bytes c.output_byte-at.ensures.0 (search rules)
