-- The syndromes of a word: its polynomial at a and at a^3. Bit 255 is not in the polynomial; its place stands for 0, so that the
-- 256 places are the 256 elements of the field.
-- Assumes nothing.
use Rattle.std.specs.Prelude.{cond, List, [], ◌∷◌, ℕ, ◌-◌, ◌*◌, ltb, get_or}
use Rattle.bits.specs.Xor.{xor_sum}
use Rattle.gf256.specs.Field.{cube}
use Rattle.gf256.specs.Tables.{powers}
use Rattle.word_spec.specs.CodeWord.{Word, parity}
use Rattle.word_spec.specs.declared.Syndromes.{Syndromes}

-- The element of the field that stands for a place, an entry of the table of powers: a^254 for bit 0 ("bit 0 at power 254") down
-- to a^0 for bit 254; and 0 for bit 255.
unfoldable pub locator : ℕ → ℕ
locator k = cond (ltb k 255) (get_or powers (254 - k) 0) 0

-- Sums over the places of the bits that are set.
unfoldable pub S1 : Word → ℕ
S1 w = xor_sum 256 (λ k. w k * locator k)

unfoldable pub S3 : Word → ℕ
S3 w = xor_sum 256 (λ k. w k * cube (locator k))

-- The two syndromes and the parity of a word.
unfoldable pub syndromes_of : Word → Syndromes
syndromes_of w = record { s1 = S1 w; s3 = S3 w; parity = parity w }

-- The remainder of a word from them, by columns (lin, in gf256): entry i is what digit i of S1, or of S3, adds to it. That it is the
-- remainder is a law (SyndromeLaws.antt).
unfoldable pub S1_checks : List ℕ
S1_checks = 50525 ∷ 58841 ∷ 42193 ∷ 9921 ∷ 19842 ∷ 39684 ∷ 22891 ∷ 45782 ∷ []

unfoldable pub S3_checks : List ℕ
S3_checks = 50524 ∷ 57992 ∷ 62021 ∷ 58843 ∷ 43635 ∷ 35817 ∷ 42197 ∷ 15237 ∷ []
