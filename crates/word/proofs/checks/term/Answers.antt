-- `checks::term` meets its contract: the array is the table of `word_spec`.
use Rattle.std.proofs.Common.{◌≡◌, ◌*◌, ◌-◌, sym, ap, ◌∙◌, get_or, one-mul}
use Rattle.bits.specs.Bits.{bit}
use Rattle.word_spec.specs.Checks.{checks}
use Rattle.word.proofs.checks.term.Goals as goal

pub returns-then-bit-eq1 : goal.returns-then-bit-eq1
unfolding checks
returns-then-bit-eq1 c =
    let e : bit c.args.w.now c.args.k ≡ 1 = sym c.bit.ensures.0 ∙ c.if-bit-eq1.true in
    sym (ap (λ b. b * get_or checks (255 - c.args.k) 0) e ∙ one-mul (get_or checks (255 - c.args.k) 0))
