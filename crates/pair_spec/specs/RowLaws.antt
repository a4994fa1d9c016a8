-- Where each bit of a word stands; that it stands there is a law (proofs/RowLaws.antt).
-- Assumes nothing.
use Rattle.std.specs.Prelude.{◌≡◌, ℕ, ◌+◌, ◌/◌, ◌<◌, ◌≤◌}
use Rattle.pair_spec.specs.Rows.{RowBits, word_of}

-- A front half reaches back ten pairs: (R^1) − 20 is the other row of the tenth pair before.
abbrev pub reach : ℕ
reach = 10

-- Where bit k of word (R, r) stands: nowhere (the front of rows 0 to 19), in one of the ten pairs before, or in row R.
pub data Place (R r k : ℕ) : Type 0 where
  zeros : k < 128 → ((v : RowBits) → word_of v R r k ≡ 0) → Place R r k
  before : (Q C a c : ℕ) → k < 128 → Q / 2 < R / 2 → R / 2 ≤ Q / 2 + reach → C < 8 → a < 16 → c < 16
      → ((v : RowBits) → word_of v R r k ≡ v Q C a c) → Place R r k
  own : (C c : ℕ) → 128 ≤ k → C < 8 → c < 16 → ((v : RowBits) → word_of v R r k ≡ v R C r c) → Place R r k
