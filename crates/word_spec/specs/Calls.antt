-- The call that repairs a word. 01, "Code words": "A word lent by itself is 32 bytes, bit 0 first".
-- Assumes nothing.
use Rattle.std.specs.Prelude.{Bool, List, [], ◌∷◌, ℕ}
use Rattle.bits.specs.Bits.{bit, pack}
use Rattle.std.specs.Prelude.{Ok}
use Rattle.calls.specs.Calls.{After, after, misfit, call}
use Rattle.word_spec.specs.Repair.{repair, repaired, mark}

-- Refusal 1 where the word is not of 32 bytes. Otherwise the number of flips, or 3 for lost, and the word that the repair yields.
abbrev pub repair_call : List ℕ → Bool → After (List ℕ)
repair_call word front =
    call (misfit word 32 ∷ []) word
    (after (Ok (mark (repair front (bit word)))) (pack 32 (repaired (repair front (bit word)) (bit word))))
