-- `history_core::stray` meets its contract: by the encoder, the pair number, and whether the encoder is above 1.
use Rattle.std.proofs.Common.{rules, ◌∙◌}
use borrow.Author.Tests.{tests}
use Rattle.calls.proofs.CallLaws.{stray_cases}
use Rattle.pair_spec.specs.Front.{encoder_of, next_pair}
use Rattle.history_core.proofs.stray.Goals as goal
use Rattle.history_core.proofs.stray.Goals.{then-number-encoder, else-number-encoder}

pub returns-then-number-pair : goal.returns-then-number-pair
unfolding encoder_of next_pair
returns-then-number-pair c =
    elim c.if-number-encoder.branch [
      | then-number-encoder w ↦ w.value-is ∙ search (rules, stray_cases)
      | else-number-encoder w ↦ c.if-number-pair.true ∙ search (rules, tests, stray_cases)
    ]

pub returns-else-number-pair : goal.returns-else-number-pair
unfolding encoder_of next_pair
returns-else-number-pair c = search (rules, stray_cases)
