-- Repairs put into the back halves of a pair's words, where these stand in numbers of sixteen bits. "Repaired back halves enter payload
-- out (444 bytes) and history; front flips are counted but not stored."
-- Assumes nothing.
use Rattle.std.specs.Prelude.{◌≡◌, Bool, cond, List, ℕ, ◌+◌, ◌-◌, ◌*◌, ◌/◌, ◌%◌, ◌<◌, ltb, eqb, length, get_or, set}
use Rattle.bits.specs.Bits.{bit, bit_of, from_bits, pack, flipped}
use Rattle.bits.specs.Lists.{tabulate}
use Rattle.bits.specs.Xor.{◌⊕◌}
use Rattle.word_spec.specs.CodeWord.{Word}
use Rattle.word_spec.specs.Repair.{repair, repaired, mark}
use Rattle.word_spec.proofs.RepairLaws.{Bits}
use Rattle.word_spec.specs.declared.Repair.{Repair}
use Rattle.word_spec.specs.declared.Repair.TheVariants.{Sound, One, Two, Lost}
use Rattle.pair_spec.specs.Pairs.{coded_pair}
use Rattle.pair_words_core.specs.Halves.{word_halves}
use Rattle.gathering_spec.specs.Sums.{Gathered, Parities}
use Rattle.gathering_spec.specs.Collecting.{Collected}
use Rattle.gathering_spec.specs.Dirty.{Dirty}

-- A number of sixteen bits with bit j flipped.
unfoldable pub flipped_number : ℕ → ℕ → ℕ
flipped_number v j = from_bits 16 (flipped j (bit_of 16 v))

-- The same where b is 1.
unfoldable pub flipped_if : ℕ → ℕ → ℕ → ℕ
flipped_if b v j = cond (eqb b 0) v (flipped_number v j)

unfoldable pub buffer_flipped_if : ℕ → ℕ → List ℕ → List ℕ
buffer_flipped_if b i s = cond (eqb b 0) s (pack (length s) (flipped i (bit s)))

-- The halves with bit k of word w flipped, if it is one of the back half.
unfoldable pub flipped_back : ℕ → ℕ → List ℕ → List ℕ
flipped_back w k s = cond (ltb k 128) s (set s (8 * w + (k - 128) / 16) (flipped_number (get_or s (8 * w + (k - 128) / 16) 0) ((k + 8) % 16)))

-- Where that bit stands in a coded pair, "V(R, (k−128) div 16, r, (k mod 16)^r)", and the coded pair with it flipped.
unfoldable pub coded_bit : ℕ → ℕ → ℕ
coded_bit w k = 128 * w + (k - 128) / 16 * 16 + ((k % 16) ⊕ (w % 16))

unfoldable pub flipped_coded : ℕ → ℕ → List ℕ → List ℕ
flipped_coded w k c = cond (ltb k 128) c (pack (length c) (flipped (coded_bit w k) (bit c)))

-- With the places of a repair flipped, by what flips one.
unfoldable pub mended_by : (ℕ → List ℕ → List ℕ) → Repair → List ℕ → List ℕ
mended_by flip Sound s = s
mended_by flip (One i) s = flip i s
mended_by flip (Two i j) s = flip i (flip j s)
mended_by flip Lost s = s

-- Words of which word w is v.
unfoldable pub updated : ℕ → Word → (ℕ → Word) → ℕ → Word
updated w v f u = cond (eqb u w) v (f u)

-- Halves and coded pair of the same words.
pub record Holding (f : ℕ → Word) (halves coded : List ℕ) : Type 0 where
  pub halves_are : halves ≡ word_halves f
  pub coded_is : coded ≡ coded_pair f

-- Word w was handled by the numbers u of the words and their parities q: whatever words those are of, and whatever words halves and coded
-- pair are of if word w is the same, m is the mark of its repair, and halves and coded pair have it repaired.
pub record Handled (u : List ℕ) (q : ℕ) (front : Bool) (w : ℕ) (s c : List ℕ) (m : ℕ) (s' c' : List ℕ) : Type 0 where
  pub done : (words : ℕ → Word) → ((v : ℕ) → Bits (words v)) → Collected words u → Parities words q
      → (f : ℕ → Word) → ((v : ℕ) → Bits (f v)) → f w ≡ words w → Holding f s c
      → (m ≡ mark (repair front (words w))) × Holding (updated w (repaired (repair front (words w)) (words w)) f) s' c'

-- Each word repaired.
unfoldable pub repaired_by : Bool → (ℕ → Word) → ℕ → Word
repaired_by front words v = repaired (repair front (words v)) (words v)

-- Of the words of a set the first, of the others the second.
unfoldable pub in_set : {A : Type 0} → ℕ → (ℕ → A) → (ℕ → A) → ℕ → A
in_set left f g v = cond (eqb (bit_of 32 left v) 1) (f v) (g v)

-- The words of a set were handled so, and the others are as they were.
pub record HandledSet (u : List ℕ) (q : ℕ) (front : Bool) (left : ℕ) (s c ms s' c' ms' : List ℕ) : Type 0 where
  pub long : length ms' ≡ length ms
  pub done : (words : ℕ → Word) → ((v : ℕ) → Bits (words v)) → Collected words u → Parities words q
      → (f : ℕ → Word) → ((v : ℕ) → Bits (f v)) → ((v : ℕ) → v < 32 → bit_of 32 left v ≡ 1 → f v ≡ words v) → Holding f s c
      → ((v : ℕ) → v < 32 → get_or ms' v 0 ≡ in_set left (λ v. mark (repair front (words v))) (λ v. get_or ms v 0) v)
      × Holding (in_set left (repaired_by front words) f) s' c'

-- All that are no code words, d, were: the marks of all words are put, and halves and coded pair have them repaired.
pub record HandledDirty (u : List ℕ) (q d : ℕ) (front : Bool) (s c ms s' c' : List ℕ) : Type 0 where
  pub done : (words : ℕ → Word) → ((v : ℕ) → Bits (words v)) → Collected words u → Parities words q → Dirty words d → Holding words s c
      → (ms ≡ tabulate 32 (λ v. mark (repair front (words v)))) × Holding (repaired_by front words) s' c'

-- The same by the sums.
pub record HandledAll (t : List ℕ) (q d : ℕ) (front : Bool) (s c ms s' c' : List ℕ) : Type 0 where
  pub done : (words : ℕ → Word) → ((v : ℕ) → Bits (words v)) → Gathered words t → Parities words q → Dirty words d → Holding words s c
      → (ms ≡ tabulate 32 (λ v. mark (repair front (words v)))) × Holding (repaired_by front words) s' c'
