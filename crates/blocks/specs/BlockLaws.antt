-- Laws of blocks: their bits and their rows.
-- Assumes nothing.
use Rattle.std.specs.Prelude.{◌≡◌, List, ℕ, ◌%◌, ◌^◌, ◌<◌, length, get_or}
use Rattle.std.proofs.Common.{sym, ap, ◌∙◌, arith, ext_get_or}
use Rattle.bits.specs.ListLaws.{length_tabulate, get_d_tabulate, tabulate_below, tabulate_ext}
use Rattle.bits.specs.Bits.{bit_of}
use Rattle.bits.proofs.BitLaws.{bit_of_lt, bit_of_from_bits, bit_of_equal, from_bits_lt, from_bits_ext}
use Rattle.blocks.specs.Block.{bit_at, row_word, block}

-- A list of sixteen 16-bit rows.
pub record Block (b : List ℕ) : Type 0 where
  pub rows : length b ≡ 16
  pub row : (i : ℕ) → get_or b i 0 < 2 ^ 16

pub bit_at_lt : (b : List ℕ) (i j : ℕ) → bit_at b i j < 2
unfolding bit_at
bit_at_lt b i j = bit_of_lt 16 (get_or b i 0) j

pub bit_at_block : (f : ℕ → ℕ → ℕ) (i j : ℕ) → i < 16 → j < 16 → bit_at (block f) i j ≡ f i j % 2
unfolding bit_at block row_word
bit_at_block f i j hi hj = ap (λ x. bit_of 16 x j) (get_d_tabulate 16 (row_word f) i 0 hi) ∙ bit_of_from_bits 16 (f i) j hj

-- The same where f gives bits.
pub bit_at_block_of : (f : ℕ → ℕ → ℕ) → ((i j : ℕ) → f i j < 2) → (i j : ℕ) → i < 16 → j < 16 → bit_at (block f) i j ≡ f i j
bit_at_block_of f small i j hi hj = bit_at_block f i j hi hj ∙ omega (arith, small i j)

pub block_is : (f : ℕ → ℕ → ℕ) → Block (block f)
unfolding block row_word
block_is f =
    record {
      rows = length_tabulate 16 (row_word f);
      row = tabulate_below 16 (row_word f) (2 ^ 16) (λ i. from_bits_lt 16 (f i)) (omega arith);
    }

-- Blocks whose bits agree are equal.
pub block_equal : (a b : List ℕ) → Block a → Block b → ((i j : ℕ) → i < 16 → j < 16 → bit_at a i j ≡ bit_at b i j) → a ≡ b
unfolding bit_at
block_equal a b ha hb same =
    ext_get_or 0 a b (ha.rows ∙ sym hb.rows)
    (λ i l. bit_of_equal 16 (get_or a i 0) (get_or b i 0) (ha.row i) (hb.row i) (λ j lj. same i j (omega (arith, ha.rows)) lj))

-- Functions that agree on the places give one block.
pub block_ext : (f g : ℕ → ℕ → ℕ) → ((i j : ℕ) → i < 16 → j < 16 → f i j ≡ g i j) → block f ≡ block g
unfolding block row_word
block_ext f g same =
    tabulate_ext 16 (row_word f) (row_word g) (λ i l. from_bits_ext 16 (f i) (g i) (λ j lj. ap (λ x. x % 2) (same i j l lj)))
