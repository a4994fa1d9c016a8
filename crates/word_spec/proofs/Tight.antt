-- Six is exact: code words differ in at least 6 bits (Distance.antt), and these two in no more.
-- Assumes nothing.
use Rattle.std.specs.Prelude.{◌≡◌, refl, List, [], ◌∷◌, ℕ}
use Rattle.bits.specs.Count.{count, differs, distance}
use Rattle.bits.specs.Xor.{◌⊕◌}
use Rattle.gf256.specs.Polynomials.{coefficient, polynomial_number, reduce}
use Rattle.word_spec.specs.CodeWord.{Word, generator, remainder, parity, CodeWord}
use Rattle.word_spec.proofs.BenchValues.{set_at, set_bits, zero_word, zero_code_word}

-- y^30 + y^22 + y^17 + y^14 + 1, a multiple of g, and bit 255 for even parity.
six : List ℕ
six = 224 ∷ 232 ∷ 237 ∷ 240 ∷ 254 ∷ 255 ∷ []

six_code_word : CodeWord (set_at six)
unfolding six set_at coefficient remainder reduce polynomial_number generator ◌⊕◌ parity count
six_code_word = record { bits = set_bits six; divisible = refl; even = refl }

six_away : distance 256 (set_at six) zero_word ≡ 6
unfolding six distance count differs zero_word set_at coefficient
six_away = refl

-- There are two code words that differ in just 6 bits.
pub six_exact : (c : Word) × (d : Word) × CodeWord c × CodeWord d × (distance 256 c d ≡ 6)
six_exact = (set_at six, zero_word, six_code_word, zero_code_word, six_away)
