-- Laws of riffles: as code makes them, and where each number comes from.
-- Assumes nothing.
use Rattle.std.specs.Prelude.{◌≡◌, refl, List, ℕ, ◌+◌, ◌*◌, ◌/◌, ◌%◌, ◌<◌, get_or, take, drop}
use Rattle.std.proofs.Common.{ap, ◌∙◌, arith, get_or-take, get_or-drop}
use Rattle.bits.specs.ListLaws.{get_d_tabulate}
use Rattle.riffle_core.specs.Riffles.{riffled_number, riffled, by_blocks, by_words}

-- ---- what code makes

-- Two numbers of a riffle,
pub riffle_even : (x : List ℕ) (n v : ℕ) → v ≡ get_or x n 0 → v ≡ riffled_number x (2 * n)
unfolding riffled_number
riffle_even x n v e = e ∙ ap (λ k. get_or x k 0) (omega arith)

pub riffle_odd : (x : List ℕ) (n v : ℕ) → v ≡ get_or x (64 + n) 0 → v ≡ riffled_number x (2 * n + 1)
unfolding riffled_number
riffle_odd x n v e = e ∙ ap (λ k. get_or x k 0) (omega arith)

-- and the same from the two halves of a row.
pub riffle_first : (x : List ℕ) (n v : ℕ) → n < 64 → v ≡ get_or (take 64 x) n 0 → v ≡ riffled_number x (2 * n)
riffle_first x n v l e = riffle_even x n v (e ∙ get_or-take 64 x n 0 l)

pub riffle_second : (x : List ℕ) (n v : ℕ) → v ≡ get_or (drop 64 x) n 0 → v ≡ riffled_number x (2 * n + 1)
riffle_second x n v e = riffle_odd x n v (e ∙ get_or-drop 64 x n 0)

pub ruleset riffling = (riffle_even, riffle_odd, riffle_first, riffle_second)

-- ---- where a number comes from

-- A place of a riffled row takes its number from the place that has the lowest of its seven bits as the highest,
riffled_at : (x : List ℕ) (m k : ℕ) → m < 128 → m / 2 + 64 * (m % 2) ≡ k → get_or (riffled x) m 0 ≡ get_or x k 0
unfolding riffled riffled_number
riffled_at x m k l e = get_d_tabulate 128 (riffled_number x) m 0 l ∙ ap (λ i. get_or x i 0) e

-- of one riffled three times, from the place that has the lowest three as the highest,
riffled_three : (x : List ℕ) (m : ℕ) → m < 128 → get_or (riffled (riffled (riffled x))) m 0 ≡ get_or x (m / 8 + 16 * (m % 8)) 0
riffled_three x m l =
    riffled_at (riffled (riffled x)) m (m / 2 + 64 * (m % 2)) l refl
    ∙ riffled_at (riffled x) (m / 2 + 64 * (m % 2)) (m / 4 + 32 * (m % 4)) (omega arith) (omega arith)
    ∙ riffled_at x (m / 4 + 32 * (m % 4)) (m / 8 + 16 * (m % 8)) (omega arith) (omega arith)

-- so that place 8r+C of a row by words takes number 16C+r of the row by blocks,
pub by_words_at : (x : List ℕ) (r C : ℕ) → r < 16 → C < 8 → get_or (by_words x) (8 * r + C) 0 ≡ get_or x (16 * C + r) 0
unfolding by_words
by_words_at x r C lr lC = riffled_three x (8 * r + C) (omega arith) ∙ ap (λ i. get_or x i 0) (omega arith)

-- and place 16C+r of a row by blocks number 8r+C of the row by words.
pub by_blocks_at : (x : List ℕ) (r C : ℕ) → r < 16 → C < 8 → get_or (by_blocks x) (16 * C + r) 0 ≡ get_or x (8 * r + C) 0
unfolding by_blocks
by_blocks_at x r C lr lC =
    riffled_three (riffled x) (16 * C + r) (omega arith) ∙ riffled_at x ((16 * C + r) / 8 + 16 * ((16 * C + r) % 8)) (8 * r + C) (omega arith) (omega arith)
