-- Laws of the steps in which a block is reordered: what each gives, and the moves that reorder and restore.
-- Assumes nothing.
use Rattle.std.specs.Prelude.{◌≡◌, refl, List, ℕ, zero, suc, ◌+◌, ◌*◌, ◌%◌, ◌<◌, ◌≤◌, get_or}
use Rattle.std.proofs.Common.{sym, ap, ap₂, ◌∙◌, mul-le-mul_right, arith, pow_mono}
use Rattle.std.specs.Int.{Width}
use mir.Val.{Fits, bits}
use Rattle.bits.specs.Bits.{bit_of, from_bits}
use Rattle.bits.proofs.BitLaws.{from_bits_ext}
use Rattle.blocks.specs.Block.{bit_at, row_word, block}
use Rattle.interleaver_spec.specs.Block.{row_shift, source_row, source_column, reordered, restored_bit, restored}
use Rattle.blocks.specs.BlockLaws.{block_ext}
use Rattle.interleaver_spec.proofs.BlockLaws.{target_row, target_column, target_row_lt}
use Rattle.interleaver_spec.proofs.BlockLaws.{target_column_lt, place_from_row, place_from_column, bit_at_reordered}
use Rattle.blocks.specs.Moves.{turned, pick, chosen, moved, transposed}
use Rattle.blocks.specs.MoveLaws.{Moves, moves_same, moves_then, block_moved, pick_lt, transposed_bit}
use Rattle.interleaver_spec.specs.Moves.{turned_bit, moved_bit}

-- ---- rows of a block

-- The number of columns by which a row is turned does not wrap.
pub turn_fits : (W : Width) (n i : ℕ) → 8 ≤ bits W → n < 16 → i < 16 → Fits W (n * i)
turn_fits W n i lW ld li =
    record { fits = omega (arith, mul-le-mul_right {m = n} {n = 15} i (omega arith), pow_mono {i = 8} {j = bits W} lW) }

pub turn_row : (n : ℕ) (b : List ℕ) (i x t : ℕ) → x ≡ get_or b i 0 → t ≡ turned x (n * i % 16) → t ≡ row_word (turned_bit n b) i
unfolding row_word turned turned_bit bit_at
turn_row n b i x t p q = q ∙ ap (λ v. from_bits 16 (λ c. bit_of 16 v ((c + n * i % 16) % 16))) p

pub move_row : (n m : ℕ) (b : List ℕ) (i x y t : ℕ) → x ≡ get_or b ((i + n) % 16) 0 → y ≡ get_or b i 0 → t ≡ chosen m x y
    → t ≡ row_word (moved_bit n m b) i
unfolding row_word chosen moved_bit bit_at pick
move_row n m b i x y t p q e =
    e
    ∙ ap₂ (λ u v. from_bits 16 (λ c. pick (bit_of 16 m c) (bit_of 16 u c) (bit_of 16 v c))) p q
    ∙ from_bits_ext 16 (λ c. pick (bit_of 16 m c) (bit_of 16 (get_or b ((i + n) % 16) 0) c) (bit_of 16 (get_or b i 0) c))
    (λ c. bit_of 16 (get_or b (pick (bit_of 16 m c) ((i + n) % 16) i) 0) c) (λ c l. ap (λ u. u % 2) (one c (bit_of 16 m c)))
  where
    one : (c s : ℕ)
        → pick s (bit_of 16 (get_or b ((i + n) % 16) 0) c) (bit_of 16 (get_or b i 0) c) ≡ bit_of 16 (get_or b (pick s ((i + n) % 16) i) 0) c
    one c zero = refl
    one c (suc s) = refl

-- ---- moves one after the other

-- Where the bits come from once rows are turned, or columns moved.
turn_moves : (n : ℕ) (b y : List ℕ) → y ≡ block (turned_bit n b) → Moves 16 16 (λ i c. i) (λ i c. (c + n * i % 16) % 16) b y
unfolding moved turned_bit
turn_moves n b y e = record { is = e ∙ sym (block_moved (λ i c. i) (λ i c. (c + n * i % 16) % 16) b) }

move_moves : (n m : ℕ) (b y : List ℕ) → y ≡ block (moved_bit n m b) → Moves 16 16 (λ i c. pick (bit_of 16 m c) ((i + n) % 16) i) (λ i c. c) b y
unfolding moved moved_bit
move_moves n m b y e = record { is = e ∙ sym (block_moved (λ i c. pick (bit_of 16 m c) ((i + n) % 16) i) (λ i c. c) b) }

then_turn : {r k : ℕ → ℕ → ℕ} {b x : List ℕ} (n : ℕ) (y : List ℕ) → Moves 16 16 r k b x → y ≡ block (turned_bit n x)
    → Moves 16 16 (λ i c. r i ((c + n * i % 16) % 16)) (λ i c. k i ((c + n * i % 16) % 16)) b y
then_turn {x = x} n y h e = moves_then h (turn_moves n x y e) (λ i c li lc. li) (λ i c li lc. last (c + n * i % 16))
  where
    last : (z : ℕ) → z % 16 < 16
    last z = omega arith

then_move : {r k : ℕ → ℕ → ℕ} {b x : List ℕ} (n m : ℕ) (y : List ℕ) → Moves 16 16 r k b x → y ≡ block (moved_bit n m x)
    → Moves 16 16 (λ i c. r (pick (bit_of 16 m c) ((i + n) % 16) i) c) (λ i c. k (pick (bit_of 16 m c) ((i + n) % 16) i) c) b y
then_move {x = x} n m y h e =
    moves_then h (move_moves n m x y e) (λ i c li lc. pick_lt (bit_of 16 m c) ((i + n) % 16) i 16 (omega arith) li) (λ i c li lc. lc)

-- ---- the moves that reorder and restore

reordered_moves : (b : List ℕ) → moved (λ j i. source_row i j) (λ j i. source_column i j) b ≡ transposed (reordered b)
unfolding transposed moved
reordered_moves b =
    block_ext (λ j i. bit_at b (source_row i j) (source_column i j)) (λ j i. bit_at (reordered b) i j)
    (λ j i lj li. sym (bit_at_reordered b i j li lj))

restored_moves : (b : List ℕ) → moved target_column target_row b ≡ restored (transposed b)
unfolding moved restored_bit
restored_moves b =
    block_ext (λ r c. bit_at b (target_column r c) (target_row r c)) (restored_bit (transposed b))
    (λ r c lr lc. sym (restored_place r c lr lc))
  where
    restored_place : (r c : ℕ) → r < 16 → c < 16 → restored_bit (transposed b) r c ≡ bit_at b (target_column r c) (target_row r c)
    restored_place r c lr lc =
        ap₂ (bit_at (transposed b)) (place_from_row r c lr lc) (place_from_column r c lr lc)
        ∙ transposed_bit b (target_column r c) (target_row r c) (target_column_lt r c) (target_row_lt r c)

pub reorder_is : (b t u v w r : List ℕ) → t ≡ block (turned_bit 1 b) → u ≡ block (moved_bit 8 3855 t) → v ≡ block (moved_bit 12 13107 u)
    → w ≡ block (moved_bit 14 21845 v) → r ≡ block (moved_bit 15 255 w) → r ≡ transposed (reordered b)
unfolding pick bit_of row_shift source_row source_column
reorder_is b t u v w r p q s x y =
    moves_same (λ j i. source_row i j) (λ j i. source_column i j)
    (then_move 15 255 r (then_move 14 21845 w (then_move 12 13107 v (then_move 8 3855 u (turn_moves 1 b t p) q) s) x) y) tt tt
    ∙ block_moved (λ j i. source_row i j) (λ j i. source_column i j) b ∙ reordered_moves b

pub restore_is : (b t u v w r : List ℕ) → t ≡ block (moved_bit 8 3855 b) → u ≡ block (moved_bit 4 13107 t) → v ≡ block (moved_bit 2 21845 u)
    → w ≡ block (moved_bit 1 255 v) → r ≡ block (turned_bit 15 w) → r ≡ restored (transposed b)
unfolding pick bit_of row_shift target_row target_column
restore_is b t u v w r p q s x y =
    moves_same target_column target_row
    (then_turn 15 r (then_move 1 255 w (then_move 2 21845 v (then_move 4 13107 u (move_moves 8 3855 b t p) q) s) x) y) tt tt
    ∙ block_moved target_column target_row b ∙ restored_moves b
