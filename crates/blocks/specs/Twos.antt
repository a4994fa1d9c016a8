-- Loops that put two values a turn, and the two bytes of a word: none / more / done.
-- Assumes nothing.
use Rattle.std.specs.Prelude.{◌≡◌, refl, List, [], ◌∷◌, ℕ, zero, suc, ◌+◌, ◌-◌, ◌*◌, ◌/◌, ◌%◌, ◌^◌, ◌<◌, ◌≤◌, length, get_or, set}
use Rattle.std.proofs.Common.{ap, ◌∙◌, length-set}
use Rattle.std.specs.Int.{w16, to_be_bytes, to_le_bytes}
use native.Mathlib.Omega.{arith}
use Rattle.bits.specs.Bits.{bit, bit_of, from_bits}
use Rattle.bits.specs.Filling.{Filling, fill_none, fill_two, fill_done}
use Rattle.bits.specs.Lists.{tabulate}
use Rattle.bits.specs.ListLaws.{is_tabulate}
use Rattle.bits.proofs.NumberLaws.{half_is, two_bytes}
use Rattle.blocks.specs.SideBySide.{read_word, row_byte, word_byte}

-- Two bytes as they are read.
pub read_made : (s : List ℕ) (j x y : ℕ) → x ≡ get_or s (j + 1) 0 → y ≡ get_or s j 0 → x < 256 → y < 256 → x * 256 + y ≡ read_word s j
unfolding read_word
read_made s j x y p q lx ly =
    two_bytes s (j + 1) j x y (λ c. bit s (8 * j + (c + 8) % 16)) p q lx ly
    (λ k l. ap (bit s) (omega arith)) (λ k l. ap (bit s) (omega arith))

-- The same of a string of bytes, the second the upper.
pub read_from_le : (s : List ℕ) (j : ℕ) → ((i : ℕ) → get_or s i 0 < 256) → get_or s j 0 + get_or s (j + 1) 0 * 256 ≡ read_word s j
read_from_le s j small = omega (arith, read_made s j (get_or s (j + 1) 0) (get_or s j 0) refl refl (small (j + 1)) (small j))

-- A word's bytes.
module _ (row : List ℕ) (x w : ℕ) (e : w ≡ get_or row x 0) (l : w < 2 ^ 16) where
  half_of_lem : (h : ℕ) → h < 2 → w / 2 ^ (8 - 8 * h) % 256 ≡ from_bits 8 (λ c. bit_of 16 (get_or row x 0) (8 * h + c))
  half_of_lem h lh = half_is w h l lh ∙ ap (λ v. from_bits 8 (λ c. bit_of 16 v (8 * h + c))) e

  pub row_upper : w / 256 % 256 ≡ row_byte row (2 * x)
  unfolding row_byte
  row_upper =
      let word : 2 * x / 2 ≡ x = omega arith in
      let half : 2 * x % 2 ≡ 0 = omega arith in
      rw (word, half) (half_of_lem 0 (omega arith))

  pub row_lower : w % 256 ≡ row_byte row (2 * x + 1)
  unfolding row_byte
  row_lower =
      let word : (2 * x + 1) / 2 ≡ x = omega arith in
      let half : (2 * x + 1) % 2 ≡ 1 = omega arith in
      rw (word, half) (omega (arith, half_of_lem 1 (omega arith)))

  pub word_lower : w % 256 ≡ word_byte row (2 * x)
  unfolding word_byte
  word_lower =
      let word : 2 * x / 2 ≡ x = omega arith in
      let half : 2 * x % 2 ≡ 0 = omega arith in
      rw (word, half) (omega (arith, half_of_lem 1 (omega arith)))

  pub word_upper : w / 256 % 256 ≡ word_byte row (2 * x + 1)
  unfolding word_byte
  word_upper =
      let word : (2 * x + 1) / 2 ≡ x = omega arith in
      let half : (2 * x + 1) % 2 ≡ 1 = omega arith in
      rw (word, half) (half_of_lem 0 (omega arith))

-- The bytes of 128 words, two a word, from what stands in each two of them.
by_twos : (f : ℕ → ℕ) (d : List ℕ) → length d ≡ 256 → ((x : ℕ) → x < 128 → (get_or d (2 * x) 0 ≡ f (2 * x)) × (get_or d (2 * x + 1) 0 ≡ f (2 * x + 1)))
    → d ≡ tabulate 256 f
by_twos f d long each = is_tabulate 0 d 256 f long (λ y l. at y l (y % 2) refl)
  where
    at : (y : ℕ) → y < 256 → (h : ℕ) → y % 2 ≡ h → get_or d y 0 ≡ f y
    at y l zero e = let s : 2 * (y / 2) ≡ y = omega arith in rw s at ((each (y / 2) (omega arith)).0)
    at y l (suc zero) e = let s : 2 * (y / 2) + 1 ≡ y = omega arith in rw s at ((each (y / 2) (omega arith)).1)
    at y l (suc (suc h)) e = absurd (omega arith)

module _ (words d : List ℕ) (long : length d ≡ 256) (fits : (i : ℕ) → get_or words i 0 < 2 ^ 16) where
  pub row_written : ((x : ℕ) → x < 128 → get_or d (2 * x) 0 ∷ get_or d (2 * x + 1) 0 ∷ [] ≡ to_be_bytes w16 (get_or words x 0)) → d ≡ tabulate 256 (row_byte words)
  row_written each =
      by_twos (row_byte words) d long
      (λ x l. let e = each x l in
      let w = get_or words x 0 in
      let upper : get_or d (2 * x) 0 ≡ w / 256 % 256 = cc in
      let lower : get_or d (2 * x + 1) 0 ≡ w % 256 = cc in
      (upper ∙ row_upper words x w refl (fits x), lower ∙ row_lower words x w refl (fits x)))

  pub words_written : ((x : ℕ) → x < 128 → get_or d (2 * x) 0 ∷ get_or d (2 * x + 1) 0 ∷ [] ≡ to_le_bytes w16 (get_or words x 0)) → d ≡ tabulate 256 (word_byte words)
  words_written each =
      by_twos (word_byte words) d long
      (λ x l. let e = each x l in
      let w = get_or words x 0 in
      let lower : get_or d (2 * x) 0 ≡ w % 256 = cc in
      let upper : get_or d (2 * x + 1) 0 ≡ w / 256 % 256 = cc in
      (lower ∙ word_lower words x w refl (fits x), upper ∙ word_upper words x w refl (fits x)))

-- Of 2n values the first 2x are f's.
pub record Twos (f : ℕ → ℕ) (n x : ℕ) (d : List ℕ) : Type 0 where
  pub filled : Filling f (2 * n) (2 * x) d

pub twos_none : (f : ℕ → ℕ) (n : ℕ) (d : List ℕ) → length d ≡ 2 * n → Twos f n 0 d
twos_none f n d e = record { filled = fill_none f (2 * n) d e }

pub twos_room : {f : ℕ → ℕ} {n x : ℕ} {d : List ℕ} (u : ℕ) → Twos f n x d → x < n → 2 * x + 1 < length (set d (2 * x) u)
twos_room {f} {n} {x} {d} u h l = omega (arith, length-set d (2 * x) u, h.filled.long)

pub twos_more : {f : ℕ → ℕ} {n x : ℕ} {d : List ℕ} (u v : ℕ) → Twos f n x d → x < n → u ≡ f (2 * x) → v ≡ f (2 * x + 1)
    → Twos f n (x + 1) (set (set d (2 * x) u) (2 * x + 1) v)
twos_more u v h l p q = record { filled = fill_two u v h.filled (omega arith) p q (omega arith) }

pub twos_done : {f : ℕ → ℕ} {n x : ℕ} {d : List ℕ} (m : ℕ) → Twos f n x d → n ≤ x → 2 * n ≡ m → d ≡ tabulate m f
twos_done m h l e = rw e at (fill_done h.filled (omega arith))

pub ruleset twos = (twos_none, twos_room, twos_more, twos_done)
