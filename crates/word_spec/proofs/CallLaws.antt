-- Laws of the call that repairs a word.
-- Assumes nothing.
use Rattle.std.specs.Prelude.{◌≡◌, refl, Bool, List, ℕ, ◌<◌, length, get_or}
use Rattle.std.proofs.Common.{sym, ap, ◌∙◌}
use Rattle.bits.specs.Bits.{bit, pack}
use Rattle.bits.proofs.BitLaws.{pack_bit, pack_ext}
use Rattle.calls.specs.Answers.{TurnedBack}
use Rattle.std.specs.Prelude.{Ok}
use Rattle.calls.specs.Calls.{After, after}
use Rattle.calls.proofs.CallLaws.{cases, call_keeps}
use Rattle.word_spec.specs.Repair.{repair, repaired, mark}
use Rattle.word_spec.specs.Marks.{lost, mark_meaning}
use Rattle.word_spec.proofs.RepairLaws.{lost_unaltered}
use Rattle.word_spec.specs.Calls.{repair_call}
use Rattle.word_spec.specs.declared.Repair.{Repair}
use Rattle.word_spec.specs.declared.Repair.TheVariants.{Sound, One, Two, Lost}

-- ---- the number of a repair

pub mark_sound : (r : Repair) → r ≡ Sound → 0 ≡ mark r
unfolding mark
mark_sound r e = rw e refl

pub mark_one : (r : Repair) (i : ℕ) → r ≡ One i → 1 ≡ mark r
unfolding mark
mark_one r i e = rw e refl

pub mark_two : (r : Repair) (i j : ℕ) → r ≡ Two i j → 2 ≡ mark r
unfolding mark
mark_two r i j e = rw e refl

pub mark_three : (r : Repair) → r ≡ Lost → 3 ≡ mark r
unfolding mark
mark_three r e = rw e refl

pub ruleset marking = (mark_sound, mark_one, mark_two, mark_three)

-- ---- the call

module _ (word : List ℕ) (front : Bool) where
  -- Every word of 32 bytes is accepted.
  pub repair_done : (r : Repair) (m : ℕ) (d : List ℕ) → length word ≡ 32 → r ≡ repair front (bit word) → m ≡ mark r
      → d ≡ pack 32 (repaired (repair front (bit word)) (bit word)) → after (Ok m) d ≡ repair_call word front
  repair_done r m d l e f g = rw (g, f, e) (search cases)

  -- A refused call leaves the word as it was.
  pub repair_keeps : TurnedBack (repair_call word front).answer → (repair_call word front).written ≡ word
  repair_keeps = call_keeps _ _ _ refl

  -- "the word is lost and unaltered"
  pub lost_keeps : length word ≡ 32 → ((j : ℕ) → get_or word j 0 < 256) → mark_meaning (mark (repair front (bit word))) ≡ lost
      → (repair_call word front).written ≡ word
  lost_keeps l b e =
      sym (ap (λ (a : After (List ℕ)). a.written) (repair_done (repair front (bit word)) _ _ l refl refl refl))
      ∙ pack_ext 32 (repaired (repair front (bit word)) (bit word)) (bit word) (λ k h. lost_unaltered (repair front (bit word)) e (bit word) k)
      ∙ pack_bit word 32 l b
