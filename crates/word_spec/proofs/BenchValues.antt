-- The bench values of 01 that are about single words, from the definitions.
-- Assumes nothing.
use Rattle.std.specs.Prelude.{◌≡◌, refl, Bool, true, List, [], ◌∷◌, ℕ, ◌<◌}
use Rattle.std.proofs.Common.{sym, ap, ◌∙◌, arith, eq-eqb, ne_eqb, lit<, lit≤}
use Rattle.std.proofs.Math.Decide.{ℕ_discrete}
use Rattle.bits.specs.Bits.{flipped}
use Rattle.bits.specs.Count.{count, differs, distance}
use Rattle.bits.proofs.CountLaws.{distance_triangle, distance_sym, distance_ext}
use Rattle.bits.specs.Tests.{agree}
use Rattle.bits.specs.Xor.{◌⊕◌}
use Rattle.gf256.specs.Polynomials.{coefficient, polynomial_number, reduce}
use Rattle.word_spec.specs.CodeWord.{Word, generator, remainder, parity, CodeWord}
use Rattle.word_spec.specs.Completion.{completed}
use Rattle.word_spec.proofs.CompletionLaws.{completed_only}
use Rattle.word_spec.proofs.Distance.{code_distance}
use Rattle.word_spec.specs.Repair.{places, flip_all, repaired, mark, repair}
use Rattle.word_spec.proofs.RepairLaws.{Bits, code_ext, mark_distance}
use Rattle.word_spec.proofs.RepairTheorems.{allowed_low, allowed_mark, repair_is, repair_none}
use Rattle.word_spec.specs.declared.Repair.TheVariants.{Two, Lost}

-- The word whose bits are set at the places of a list.
unfoldable pub set_at : List ℕ → Word
set_at ps k = coefficient ps k

pub set_bits : (ps : List ℕ) → Bits (set_at ps)
unfolding set_at coefficient
set_bits [] k l = lit< tt
set_bits (p ∷ ps) k l = go (ℕ_discrete p k) (set_bits ps k l)
  where
    go : Dec (p ≡ k) → coefficient ps k < 2 → coefficient (p ∷ ps) k < 2
    go (yes e) rest = simp (eq-eqb p k e) (lit< tt)
    go (no n) rest = simp (ne_eqb p k n) rest

unfoldable pub zero_word : Word
zero_word = set_at []

pub zero_code_word : CodeWord zero_word
unfolding zero_word set_at coefficient remainder reduce parity count
zero_code_word = record { bits = set_bits []; divisible = refl; even = refl }

-- "Only bit 238 set among 0 to 238: parity bits set are 240, 241, 243, 244, 245, 246, 248, 249, 253, 254, 255."
code_238 : List ℕ
code_238 = 238 ∷ 240 ∷ 241 ∷ 243 ∷ 244 ∷ 245 ∷ 246 ∷ 248 ∷ 249 ∷ 253 ∷ 254 ∷ 255 ∷ []

code_238_word : CodeWord (set_at code_238)
unfolding code_238 set_at coefficient remainder reduce polynomial_number generator ◌⊕◌ parity count
code_238_word = record { bits = set_bits code_238; divisible = refl; even = refl }

same_238 : (k : ℕ) → k < 239 → set_at code_238 k ≡ set_at (238 ∷ []) k
unfolding code_238 set_at coefficient
same_238 = agree 239 (set_at code_238) (set_at (238 ∷ [])) tt

pub only_238 : (k : ℕ) → k < 256
    → completed (set_at (238 ∷ [])) k ≡ set_at (238 ∷ 240 ∷ 241 ∷ 243 ∷ 244 ∷ 245 ∷ 246 ∷ 248 ∷ 249 ∷ 253 ∷ 254 ∷ 255 ∷ []) k
unfolding code_238
only_238 k l = sym (completed_only (set_at (238 ∷ [])) (set_at code_238) code_238_word same_238 k l)

-- "Zero word with bits 0 and 255 flipped: repaired, 2."
back_to_zero : (k : ℕ) → k < 256 → repaired (Two 0 255) (set_at (0 ∷ 255 ∷ [])) k ≡ zero_word k
unfolding repaired places flip_all flipped set_at coefficient zero_word
back_to_zero = agree 256 (repaired (Two 0 255) (set_at (0 ∷ 255 ∷ []))) zero_word tt

pub two_flips_lem : repair true (set_at (0 ∷ 255 ∷ [])) ≡ Two 0 255
two_flips_lem =
    repair_is true (set_at (0 ∷ 255 ∷ [])) (set_bits (0 ∷ 255 ∷ [])) (Two 0 255) (lit≤ tt, lit< tt, lit< tt)
    (code_ext zero_word (repaired (Two 0 255) (set_at (0 ∷ 255 ∷ []))) (λ k l. sym (back_to_zero k l)) zero_code_word)

pub two_flips_mark : mark (repair true (set_at (0 ∷ 255 ∷ []))) ≡ 2
unfolding mark
two_flips_mark = ap mark two_flips_lem

pub two_flips_word : (k : ℕ) → k < 256 → repaired (repair true (set_at (0 ∷ 255 ∷ []))) (set_at (0 ∷ 255 ∷ [])) k ≡ 0
unfolding zero_word set_at coefficient
two_flips_word k l = ap (λ r. repaired r (set_at (0 ∷ 255 ∷ [])) k) two_flips_lem ∙ back_to_zero k l

-- "With 0, 1, 2 flipped: lost."
three : Word
three = set_at (0 ∷ 1 ∷ 2 ∷ [])

three_away : distance 256 three zero_word ≡ 3
unfolding distance count differs three zero_word set_at coefficient
three_away = refl

pub three_flips : (front : Bool) → repair front (set_at (0 ∷ 1 ∷ 2 ∷ [])) ≡ Lost
unfolding three
three_flips front =
    repair_none front three (set_bits (0 ∷ 1 ∷ 2 ∷ []))
    (λ r t C.
    let u = allowed_low front r t in
    let m = mark_distance three (set_bits (0 ∷ 1 ∷ 2 ∷ [])) r u in
    let near : distance 256 (repaired r three) zero_word < 6 =
    omega (arith, distance_triangle 256 (repaired r three) three zero_word, distance_sym 256 (repaired r three) three, m, three_away, allowed_mark r u) in
    let same = code_distance (repaired r three) zero_word C zero_code_word near in
    omega (arith, distance_ext 256 three (repaired r three) three zero_word (λ k l. refl) same, m, three_away, allowed_mark r u))
