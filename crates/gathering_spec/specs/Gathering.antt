-- The syndromes of a row's sixteen words gathered in the order in which the row is delivered. 02, E3: "our capture cards deliver a row in
-- byte order. Let the row's syndromes be gathered in that order, all sixteen words side by side".
-- Assumes nothing.
use Rattle.std.specs.Prelude.{◌≡◌, cond, List, ◌++◌, ℕ, ◌+◌, ◌-◌, ◌*◌, ◌/◌, ◌%◌, ◌^◌, ◌<◌, eqb, get_or}
use Rattle.bits.specs.Bits.{bit_of}
use Rattle.bits.specs.Xor.{◌⊕◌, xor_sum}
use Rattle.gf256.specs.Field.{cube}
use Rattle.word_spec.specs.Syndromes.{locator}
use Rattle.pair_spec.specs.History.{held_bits}
use Rattle.pair_spec.specs.Pairs.{word_row, word_bit_row}
use Rattle.pair_spec.specs.Rows.{RowBits, front_counts}

-- The n-th bit of a row in byte order, "bit index 128r+16C+c": its bit row, its block and its column.
abbrev pub bit_row_at : ℕ → ℕ
bit_row_at n = n / 128

abbrev pub block_at : ℕ → ℕ
block_at n = n % 128 / 16

abbrev pub column_at : ℕ → ℕ
column_at n = n % 16

-- A sum over places adds q k for each bit k of a word that is set. What the n-th bit of a row adds to that of word r: it is bit
-- 128+16C+(c^i) of the word whose bit row i it stands in, "V(R, (k−128) div 16, r, (k mod 16)^r)".
unfoldable pub back_share : (ℕ → ℕ) → ℕ → ℕ → ℕ
back_share q r n = cond (eqb (bit_row_at n) r) (q (128 + (16 * block_at n + (column_at n ⊕ bit_row_at n)))) 0

-- What the n-th bit of the rows in front adds to it, block C from row (R^1) − 20 + 2C: it is bit 16C+(i^c) of the word of its column,
-- "V((R^1) − 20 + 2(k div 16), k div 16, (k mod 16)^r, r)".
unfoldable pub front_share : (ℕ → ℕ) → ℕ → ℕ → ℕ
front_share q r n = cond (eqb (column_at n) r) (q (16 * block_at n + (bit_row_at n ⊕ column_at n))) 0

-- The sum of word r of row R, gathered in byte order from the row and from the rows in front. "For R < 20 the front half counts as 128
-- zeros".
unfoldable pub gathered_sum : (ℕ → ℕ) → RowBits → ℕ → ℕ → ℕ
gathered_sum q v R r =
    cond (front_counts R) (xor_sum 2048 (λ n. v ((R ⊕ 1) - 20 + 2 * block_at n) (block_at n) (bit_row_at n) (column_at n) * front_share q r n)) 0
    ⊕ xor_sum 2048 (λ n. v R (block_at n) (bit_row_at n) (column_at n) * back_share q r n)

-- t and q have what is gathered of the 32 words of pair P, of the rows that n pairs of a history and the pair received hold: number i of t
-- digit i of S1, number 8+i digit i of S3, and q the parities; bit w of each is that of word w.
pub record GatheredRows (n : ℕ) (history : List ℕ) (P : ℕ) (coded t : List ℕ) (q : ℕ) : Type 0 where
  pub first : (w i : ℕ) → w < 32 → i < 8
      → bit_of 32 (get_or t i 0) w ≡ gathered_sum locator (held_bits n (history ++ coded) P) (word_row P w) (word_bit_row w) / 2 ^ i % 2
  pub third : (w i : ℕ) → w < 32 → i < 8
      → bit_of 32 (get_or t (8 + i) 0) w ≡ gathered_sum (λ k. cube (locator k)) (held_bits n (history ++ coded) P) (word_row P w) (word_bit_row w) / 2 ^ i % 2
  pub odd : (w : ℕ) → w < 32 → bit_of 32 q w ≡ gathered_sum (λ k. 1) (held_bits n (history ++ coded) P) (word_row P w) (word_bit_row w)
