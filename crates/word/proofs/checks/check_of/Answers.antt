-- `checks::check_of` meets its contract: the sum over its bits.
use Rattle.std.proofs.Common.{◌≡◌, ◌*◌, ◌-◌, get_or, rules}
use Rattle.bits.specs.Bits.{bit}
use Rattle.bits.specs.Xor.{◌⊕◌}
use Rattle.bits.proofs.BitLaws.{bit_lt}
use Rattle.word_spec.specs.Checks.{checks, check}
use Rattle.word_spec.proofs.CheckLaws.{check_lt}
use Rattle.word.proofs.Summing.{folded_xor}
use Rattle.word.proofs.checks.check_of.Goals as goal

pub returns : goal.returns
unfolding ◌⊕◌ check
returns c =
    let s = c.args.w.now in
    let e : c.fold.result ≡ check (bit s) =
    folded_xor 256 (λ k. bit s k * get_or checks (255 - k) 0) (λ a k b q l. (search rules, search rules)) c.fold.ensures.ran in
    (e, rw e (check_lt (bit s) (λ k l. bit_lt s k)))
