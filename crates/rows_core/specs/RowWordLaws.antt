-- Laws of rows as words: as code reads them, and where each bit stands.
-- Assumes nothing.
use Rattle.std.specs.Prelude.{◌≡◌, List, ℕ, ◌+◌, ◌*◌, ◌/◌, ◌%◌, ◌<◌, get_or}
use Rattle.std.proofs.Common.{ap, ◌∙◌, arith}
use Rattle.bits.specs.Bits.{bit, bit_of, from_bits}
use Rattle.bits.proofs.BitLaws.{bit_lt, from_bits_ext}
use Rattle.bits.specs.Lists.{tabulate}
use Rattle.bits.specs.ListLaws.{get_d_tabulate, tabulate_ext}
use Rattle.bits.specs.Xor.{◌⊕◌}
use Rattle.bits.proofs.XorLaws.{⊕_lt}
use Rattle.bits.specs.Tests.{grid}
use Rattle.blocks.specs.Block.{bit_at, row_word, block}
use Rattle.blocks.specs.BlockLaws.{bit_at_lt, bit_at_block_of}
use Rattle.blocks.specs.Exchanges.{rows_exchanged, columns_exchanged}
use Rattle.blocks.specs.Laying.{laid_bit, words_block_lem}
use Rattle.blocks.specs.Moves.{moved, transposed}
use Rattle.blocks.specs.MoveLaws.{transposed_bit}
use Rattle.blocks.specs.SideBySide.{laid_word, laid, read_word, row_block, words_block}
use Rattle.pair_words_core.specs.Halves.{halves_bit}
use Rattle.rows_core.specs.RowWords.{row_words, front_block, front_words, fronts_block, fronts_in, backs_block, backs_in, exchanged_number}
use Rattle.rows_core.specs.RowWords.{coded_half, half_block, turned_rows, columns_block, columns_of}

-- ---- block by block

pub fronts_block_lem : (words : List ℕ) (C : ℕ) (b r : List ℕ) → b ≡ words_block words C → r ≡ rows_exchanged b → r ≡ fronts_block words C
unfolding fronts_block
fronts_block_lem words C b r p q = q ∙ ap rows_exchanged p

pub backs_block_lem : (words : List ℕ) (C : ℕ) (b r : List ℕ) → b ≡ row_block words C → r ≡ columns_exchanged b → r ≡ backs_block words C
unfolding backs_block
backs_block_lem words C b r p q = q ∙ ap columns_exchanged p

pub columns_block_lem : (halves : List ℕ) (s C : ℕ) (b t r : List ℕ) → b ≡ half_block halves s C → t ≡ transposed b → r ≡ turned_rows t
    → r ≡ columns_block halves s C
unfolding columns_block
columns_block_lem halves s C b t r p q e = e ∙ ap turned_rows (q ∙ ap transposed p)

pub ruleset row_blocks = (fronts_block_lem, backs_block_lem, columns_block_lem)

-- ---- blocks of bits that stand somewhere in a buffer

-- The block whose bit at (r, c) is bit f r c of a buffer; and its words as they are read.
unfoldable pub block_at : List ℕ → (ℕ → ℕ → ℕ) → List ℕ
block_at s f = block (λ r c. bit s (f r c))

row_block_lem : (s : List ℕ) (from C : ℕ) → C < 8 → row_block (row_words s from) C ≡ block_at s (λ r c. 8 * (from + 2 * (8 * r + C)) + (c + 8) % 16)
unfolding block_at block row_word row_block row_words read_word
row_block_lem s from C lC =
    tabulate_ext 16 (λ r. get_or (row_words s from) (8 * r + C) 0) (λ r. read_word s (from + 2 * (8 * r + C)))
    (λ r lr. get_d_tabulate 128 (λ x. read_word s (from + 2 * x)) (8 * r + C) 0 (omega arith))

front_block_lem : (h : List ℕ) (from C : ℕ) → C < 8 → words_block (front_words h from) C ≡ block_at h (λ r c. 8 * (514 * C + 16 * r + from) + c)
unfolding block_at front_words laid laid_word front_block read_word
front_block_lem h from C lC =
    words_block_lem (front_words h from) (λ r c. bit h (8 * (514 * C + 16 * r + from) + c)) C
    (λ r lr.
    let m : (8 * r + C) % 8 ≡ C = omega arith in
    let d : (8 * r + C) / 8 ≡ r = omega arith in
    get_d_tabulate 128 (laid_word (front_block h from)) (8 * r + C) 0 (omega arith)
    ∙ rw (m, d) (get_d_tabulate 16 (λ i. read_word h (514 * C + 16 * i + from)) r 0 lr))

at_bit : (s : List ℕ) (f : ℕ → ℕ → ℕ) (r c : ℕ) → r < 16 → c < 16 → bit_at (block_at s f) r c ≡ bit s (f r c)
unfolding block_at
at_bit s f r c lr lc = bit_at_block_of (λ r c. bit s (f r c)) (λ r c. bit_lt s (f r c)) r c lr lc

moved_bit_lem : (row column : ℕ → ℕ → ℕ) (b : List ℕ) (i c : ℕ) → i < 16 → c < 16 → bit_at (moved row column b) i c ≡ bit_at b (row i c) (column i c)
unfolding moved
moved_bit_lem row column b i c li lc = bit_at_block_of (λ i c. bit_at b (row i c) (column i c)) (λ i c. bit_at_lt b (row i c) (column i c)) i c li lc

-- ---- front halves: bit r of number 8j+C

pub fronts_bit : (h : List ℕ) (from : ℕ) (a : List ℕ) → a ≡ fronts_in (front_words h from) → (j C r : ℕ) → j < 16 → C < 8 → r < 16
    → bit_of 16 (get_or a (8 * j + C) 0) r ≡ bit h (8 * (514 * C + 16 * (j ⊕ r) + from) + r)
unfolding fronts_in fronts_block rows_exchanged
fronts_bit h from a e j C r lj lC lr =
    ap (λ x. bit_of 16 (get_or x (8 * j + C) 0) r) e ∙ laid_bit (fronts_block (front_words h from)) C j r lC lj
    ∙ moved_bit_lem (λ i c. i ⊕ c) (λ i c. c) (words_block (front_words h from) C) j r lj lr
    ∙ ap (λ b. bit_at b (j ⊕ r) r) (front_block_lem h from C lC)
    ∙ at_bit h (λ r c. 8 * (514 * C + 16 * r + from) + c) (j ⊕ r) r (⊕_lt 4 j r lj lr) lr

-- ---- back halves in order

-- Turning a row by eight columns and exchanging them by ^r commute.
pub turned_exchanged : (r c : ℕ) → r < 16 → c < 16 → ((c ⊕ r) + 8) % 16 ≡ ((c + 8) % 16) ⊕ r
unfolding ◌⊕◌
turned_exchanged = grid 16 16 (λ r c. ((c ⊕ r) + 8) % 16) (λ r c. ((c + 8) % 16) ⊕ r) tt

exchanged_row : (s : List ℕ) (f : ℕ → ℕ → ℕ) (r : ℕ) → r < 16 → get_or (columns_exchanged (block_at s f)) r 0 ≡ from_bits 16 (λ c. bit s (f r (c ⊕ r)))
unfolding columns_exchanged moved block row_word
exchanged_row s f r l =
    get_d_tabulate 16 (row_word (λ i c. bit_at (block_at s f) i (c ⊕ i))) r 0 l
    ∙ from_bits_ext 16 (λ c. bit_at (block_at s f) r (c ⊕ r)) (λ c. bit s (f r (c ⊕ r))) (λ c lc. ap (λ u. u % 2) (at_bit s f r (c ⊕ r) l (⊕_lt 4 c r lc l)))

pub halves_row : (p : List ℕ) (s : ℕ) (words row : List ℕ) → words ≡ row_words p (256 * s) → row ≡ backs_in words
    → row ≡ tabulate 128 (λ i. coded_half p (s * 128 + i))
unfolding backs_in backs_block laid laid_word coded_half
halves_row p s words row e q =
    q ∙ ap (λ u. laid (backs_block u)) e
    ∙ tabulate_ext 128 (laid_word (backs_block (row_words p (256 * s)))) (λ i. coded_half p (s * 128 + i)) here
  where
    here : (i : ℕ) → i < 128 → laid_word (backs_block (row_words p (256 * s))) i ≡ coded_half p (s * 128 + i)
    here i l =
        let d : (s * 128 + i) / 8 ≡ s * 16 + i / 8 = omega arith in
        let m : (s * 16 + i / 8) % 16 ≡ i / 8 = omega arith in
        ap (λ b. get_or (columns_exchanged b) (i / 8) 0) (row_block_lem p (256 * s) (i % 8) (omega arith))
        ∙ exchanged_row p (λ r c. 8 * (256 * s + 2 * (8 * r + i % 8)) + (c + 8) % 16) (i / 8) (omega arith)
        ∙ rw (d, m) (from_bits_ext 16 (λ c. bit p (8 * (256 * s + 2 * (8 * (i / 8) + i % 8)) + ((c ⊕ (i / 8)) + 8) % 16))
        (λ c. bit p (16 * (s * 128 + i) + (((c + 8) % 16) ⊕ (i / 8))))
        (λ c lc. ap (λ k. bit p k % 2) (omega (arith, turned_exchanged (i / 8) c (omega arith) lc))))

-- Number by number.
pub exchanged_at : (words : List ℕ) (x : ℕ) → x < 128 → get_or (backs_in words) x 0 ≡ exchanged_number words x
unfolding backs_in backs_block laid laid_word exchanged_number columns_exchanged moved block row_word bit_at row_block
exchanged_at words x l =
    let m : x / 8 % 16 ≡ x / 8 = omega arith in
    get_d_tabulate 128 (laid_word (backs_block words)) x 0 l
    ∙ get_d_tabulate 16 (row_word (λ i c. bit_at (row_block words (x % 8)) i (c ⊕ i))) (x / 8) 0 (omega arith)
    ∙ rw m (ap (λ v. from_bits 16 (λ c. bit_of 16 v (c ⊕ (x / 8)))) (get_d_tabulate 16 (λ r. get_or words (8 * r + x % 8) 0) (x / 8) 0 (omega arith)
    ∙ ap (λ n. get_or words n 0) (omega arith)))

-- ---- back halves by columns

pub columns_bit : (halves : List ℕ) (s : ℕ) (a : List ℕ) → a ≡ columns_of halves s → (j C r : ℕ) → j < 16 → C < 8 → r < 16
    → bit_of 16 (get_or a (8 * j + C) 0) r ≡ halves_bit halves (128 * (16 * s + r) + (16 * C + j))
unfolding columns_of columns_block turned_rows transposed half_block halves_bit bit_at
columns_bit halves s a e j C r lj lC lr =
    let d : (128 * (16 * s + r) + (16 * C + j)) / 16 ≡ 128 * s + 8 * r + C = omega arith in
    let m : (128 * (16 * s + r) + (16 * C + j) + 8) % 16 ≡ (j + 8) % 16 = omega arith in
    ap (λ x. bit_of 16 (get_or x (8 * j + C) 0) r) e ∙ laid_bit (columns_block halves s) C j r lC lj
    ∙ ap (λ u. bit_of 16 u r) (get_d_tabulate 16 (λ i. get_or (transposed (half_block halves s C)) ((i + 8) % 16) 0) j 0 lj)
    ∙ transposed_bit (half_block halves s C) r ((j + 8) % 16) lr (omega arith)
    ∙ ap (λ u. bit_of 16 u ((j + 8) % 16)) (get_d_tabulate 16 (λ r. get_or halves (128 * s + 8 * r + C) 0) r 0 lr)
    ∙ rw (d, m)
