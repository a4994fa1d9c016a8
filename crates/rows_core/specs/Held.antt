-- The words of a row as the receiver holds them, side by side: bit r of number 8j+C is bit 16C+j of a half of word r.
-- Assumes nothing.
use Rattle.std.specs.Prelude.{◌≡◌, cond, List, ℕ, ◌+◌, ◌-◌, ◌*◌, ◌/◌, ◌%◌, ◌<◌, ltb}
use Rattle.word_spec.specs.CodeWord.{Word}
use Rattle.gathering_spec.specs.Sums.{bit_in}
use Rattle.pair_spec.specs.History.{depth}
use Rattle.pair_words_core.specs.WordBits.{front_held}
use Rattle.pair_words_core.specs.Halves.{halves_bit}

-- Word w with its front half as a history holds it before pair P, and its back half as it stands among these halves.
unfoldable pub halves_word : List ℕ → ℕ → List ℕ → ℕ → Word
halves_word h P halves w k = cond (ltb k 128) (front_held depth h P w k) (halves_bit halves (128 * w + (k - 128)))

-- x has the front halves of the words of row s as a history holds them before pair P: zeros before pair 10.
pub record Fronts (h : List ℕ) (P s : ℕ) (x : List ℕ) : Type 0 where
  pub front : (r k : ℕ) → r < 16 → k < 128 → bit_in x (k % 16) (k / 16) r ≡ front_held depth h P (16 * s + r) k

-- y has their back halves.
pub record Backs (halves : List ℕ) (s : ℕ) (y : List ℕ) : Type 0 where
  pub back : (r k : ℕ) → r < 16 → k < 128 → bit_in y (k % 16) (k / 16) r ≡ halves_bit halves (128 * (16 * s + r) + k)
