-- `loopback::line::carry_both` meets its contract: the encoders' pairs in their order.
use Rattle.std.proofs.Common.{ℕ, ◌≡◌, ◌∙◌, sym, ap, arith, rules}
use Rattle.loopback.specs.Sent.{sent_part}
use Rattle.loopback.specs.Line.{pairs_off, line_in}
use Rattle.loopback.proofs.line.carry_both.Goals as goal

pub transmit-requires : goal.transmit-requires
transmit-requires c =
    let one : c.other.result.number ≡ 1 = omega (arith, c.other.ensures, c.if-encoder-eq0.true) in (
      c.requires.0,
      c.requires.1,
      search rules,
      search rules,
      c.encode_part.ensures ∙ ap (λ e. sent_part c.args.profile e c.args.q) c.if-encoder-eq0.true,
      c.encode_part-2.ensures ∙ ap (λ e. sent_part c.args.profile e c.args.q) one,
    )

pub transmit-requires-else-encoder-eq0 : goal.transmit-requires-else-encoder-eq0
transmit-requires-else-encoder-eq0 c =
    let one : c.args.encoder.number ≡ 1 = omega (arith, c.args.encoder.one_of_two, c.if-encoder-eq0.false) in
    let zero : c.other.result.number ≡ 0 = omega (arith, c.other.ensures) in (
      c.requires.0,
      c.requires.1,
      search rules,
      search rules,
      c.encode_part-2.ensures ∙ ap (λ e. sent_part c.args.profile e c.args.q) zero,
      c.encode_part.ensures ∙ ap (λ e. sent_part c.args.profile e c.args.q) one,
    )

pub returns-then-encoder-eq0 : goal.returns-then-encoder-eq0
returns-then-encoder-eq0 c = (
  c.transmit.ensures.differing,
  c.transmit.ensures.off0 ∙ ap (pairs_off c.args.profile (line_in c.args.profile c.args.list.now c.args.q)) (sym c.if-encoder-eq0.true),
)

pub returns-else-encoder-eq0 : goal.returns-else-encoder-eq0
returns-else-encoder-eq0 c =
    let one : ◌≡◌ {A = ℕ} 1 c.args.encoder.number = omega (arith, c.args.encoder.one_of_two, c.if-encoder-eq0.false) in (
      c.transmit-else-encoder-eq0.ensures.differing,
      c.transmit-else-encoder-eq0.ensures.off1 ∙ ap (pairs_off c.args.profile (line_in c.args.profile c.args.list.now c.args.q)) one,
    )
