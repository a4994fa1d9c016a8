-- `interleaver_core::joining::sent_words` meets its contract: one law for each encoder.
-- Assumes nothing.
use Rattle.interleaver_spec.proofs.BlockBufferLaws.{sent_0, sent_1}
use borrow.Author.Rules.{rules}
use Rattle.interleaver_core.proofs.joining.sent_words.Statement.{statement}
use Rattle.interleaver_core.proofs.joining.sent_words.Tie as tie

ruleset kit = (rules, sent_0, sent_1)

pub sent_words_spec : {M : Type 1} → statement M
sent_words_spec =
    tie.close
    (tie.spec
    (λ c κs. search kit)  -- pairs-words-requires
    (λ c. search kit)  -- returns
    (λ c κs. search kit)  -- pairs-words-requires-2
    (λ c. search kit))  -- returns-2
