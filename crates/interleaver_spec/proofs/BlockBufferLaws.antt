-- Laws of the block rows of a buffer.
-- Assumes nothing.
use Rattle.std.specs.Prelude.{◌≡◌, refl, ℕ, ◌+◌, ◌-◌, ◌*◌, ◌/◌, ◌%◌, ◌^◌, ◌<◌, ◌≤◌, length}
use Rattle.std.proofs.Math.Path.{sym, ap, ap₂}
use Rattle.std.proofs.Common.{◌∙◌, eq-eqb, ne_eqb}
use mathlib.Core.List.{List, [], ◌∷◌}
use Rattle.std.specs.Int.{w16, from_be_bytes}
use native.Mathlib.Omega.{arith}
use borrow.Rule.Slice.PartMut.{put_mid}
use Rattle.std.proofs.Math.ListN.{get_or}
use Rattle.bits.specs.Bits.{bit_of, bit, from_bits, byte_of, pack}
use Rattle.bits.proofs.BitLaws.{bit_lt, from_bits_ext, pack_ext}
use Rattle.bits.specs.Filling.{Blocks, blocks_none, blocks_next, blocks_done}
use Rattle.bits.specs.ListLaws.{get_d_tabulate, tabulate_ext}
use Rattle.bits.specs.Lists.{tabulate}
use Rattle.interleaver_spec.specs.declared.BlockRow.{BlockRow}
use Rattle.interleaver_spec.specs.declared.SubsetBitRow.{SubsetBitRow}
use Rattle.bits.proofs.NumberLaws.{two_bytes, half_is}
use Rattle.interleaver_spec.specs.Rows.{first_of, block_row, encoder_in, row_in, block_row_of}
use Rattle.blocks.specs.Block.{bit_at, row_word, block}
use Rattle.interleaver_spec.specs.Block.{source_row, source_column, reordered, restored}
use Rattle.blocks.specs.BlockLaws.{bit_at_block_of, block_ext}
use Rattle.interleaver_spec.proofs.BlockLaws.{bit_at_reordered, bit_at_restored, target_row, target_column}
use Rattle.interleaver_spec.proofs.BlockLaws.{target_row_lt, target_column_lt, source_row_lt, source_column_lt}
use Rattle.blocks.specs.Moves.{moved, transposed}
use Rattle.blocks.specs.MoveLaws.{transposed_bit}
use Rattle.interleaver_spec.specs.Positions.{out_column, t_of, subset_of, b_of, out_block_row, place_row, place_column, encoder_of, row_of, block_of}
use Rattle.interleaver_spec.specs.Positions.{bit_row_of, column_of}
use Rattle.interleaver_spec.specs.PositionLaws.{output_at}
use Rattle.interleaver_spec.proofs.PositionLaws.{part_column, part_t, part_subset, part_b, output_for, output_upper, output_lower}
use Rattle.interleaver_spec.specs.Interleaving.{pairs_bit, pairs_of, source_of, interleaved_bit, interleaved, output_of, apart}
use Rattle.interleaver_spec.proofs.InterleavingLaws.{output_from, output_of_is}
use Rattle.blocks.specs.SideBySide.{laid_word, laid, words_block, read_word}
use Rattle.blocks.specs.Laying.{laid_bit, words_block_lem}
use Rattle.interleaver_spec.specs.BlockBuffer.{pairs_place, pairs_word, pairs_words, sent_words}
use Rattle.interleaver_spec.specs.BlockBuffer.{reordered_in, sent_block, reordered_block, reordered_row, joined_word, joined, subset_row_at}
use Rattle.interleaver_spec.specs.BlockBuffer.{joined_row, subset_word, parts_bit, output_bit, column_byte}
use Rattle.blocks.specs.SideBySide.{row_byte}
use Rattle.interleaver_spec.specs.BlockBuffer.{line_place, line_block, line_column, line_columns, restored_block, restored_row}

-- ---- a word of the buffer by its block row, block and number

word_block : (i C : ℕ) → C < 8 → (8 * i + C) % 8 ≡ C
word_block i C l = omega arith

word_number : (i C : ℕ) → C < 8 → (8 * i + C) / 8 ≡ i
word_number i C l = omega arith

-- ---- from pairs to bits, as code finds them

-- A word is two bytes of the pairs, the second of them the upper. Those of a block row begin where it begins.
pub pairs_word_lem : (s : List ℕ) (k : BlockRow) (begin x w : ℕ) → begin * 8 ≡ pairs_bit (row_in k) 0 0 0 → w ≡ read_word s (begin + 2 * x) → w ≡ pairs_word s k x
unfolding pairs_word pairs_place pairs_bit read_word
pairs_word_lem s k begin x w b e =
    e ∙ from_bits_ext 16 (λ c. bit s (8 * (begin + 2 * x) + (c + 8) % 16)) (λ c. pairs_place s k (x % 8) (x / 8) ((c + 8) % 16))
    (λ c l. ap (λ i. bit s i % 2) (omega arith))

-- By its encoder.
pub sent_0 : (pairs0 pairs1 : List ℕ) (k : BlockRow) (w : List ℕ) → k.0 % 2 ≡ 0 → w ≡ pairs_words pairs0 k → w ≡ sent_words pairs0 pairs1 k
unfolding sent_words pairs_of
sent_0 pairs0 pairs1 k w e p = p ∙ simp (eq-eqb (k.0 % 2) 0 e)

pub sent_1 : (pairs0 pairs1 : List ℕ) (k : BlockRow) (w : List ℕ) → (k.0 % 2 ≡ 0 → ⊥) → w ≡ pairs_words pairs1 k
    → w ≡ sent_words pairs0 pairs1 k
unfolding sent_words pairs_of
sent_1 pairs0 pairs1 k w e p = p ∙ simp (ne_eqb (k.0 % 2) 0 e)

-- Turned by 8 columns more, the words of block C are its bit rows.
block_words : (pairs0 pairs1 : List ℕ) (k : BlockRow) (C : ℕ) → C < 8
    → words_block (sent_words pairs0 pairs1 k) C ≡ sent_block pairs0 pairs1 k C
unfolding sent_words sent_block pairs_words pairs_word
block_words pairs0 pairs1 k C lC =
    words_block_lem (pairs_words s k) (pairs_place s k C) C
    (λ r lr. get_d_tabulate 128 (pairs_word s k) (8 * r + C) 0 (omega arith)
    ∙ ap₂ (λ x y. from_bits 16 (λ c. pairs_place s k x y ((c + 8) % 16))) (word_block r C lC) (word_number r C lC))
  where
    s : List ℕ
    s = pairs_of pairs0 pairs1 (encoder_in k)

pub reordered_in_lem : (words : List ℕ) (C : ℕ) (b r : List ℕ) → b ≡ words_block words C → r ≡ transposed (reordered b) → r ≡ reordered_in words C
unfolding reordered_in
reordered_in_lem words C b r p q = q ∙ ap (λ s. transposed (reordered s)) p

reordered_words : (pairs0 pairs1 : List ℕ) (k : ℕ) (words row : List ℕ) → words ≡ sent_words pairs0 pairs1 (record { 0 = k })
    → row ≡ laid (reordered_in words) → row ≡ reordered_row pairs0 pairs1 k
unfolding reordered_row laid laid_word reordered_in reordered_block
reordered_words pairs0 pairs1 k words row p q =
    q ∙ ap (λ w. laid (reordered_in w)) p
    ∙ tabulate_ext 128 (laid_word (reordered_in (sent_words pairs0 pairs1 (record { 0 = k })))) (laid_word (reordered_block pairs0 pairs1 (record { 0 = k })))
    (λ x l. ap (λ b. get_or (transposed (reordered b)) (x / 8) 0) (block_words pairs0 pairs1 (record { 0 = k }) (x % 8) (omega arith)))

-- That of a subset, and the four of them side by side.
pub subset_row_lem : (pairs0 pairs1 : List ℕ) (x subset : ℕ) (k : BlockRow) (words row : List ℕ) → k ≡ block_row_of subset (record { 0 = 16 * x })
    → words ≡ sent_words pairs0 pairs1 k
    → row ≡ laid (reordered_in words) → row ≡ subset_row_at pairs0 pairs1 x subset
unfolding subset_row_at
subset_row_lem pairs0 pairs1 x subset k words row p q r =
    reordered_words pairs0 pairs1 k.0 words row q r ∙ ap (λ (j : BlockRow). reordered_row pairs0 pairs1 j.0) p

pub four_word : (rows : List (List ℕ)) (x subset : ℕ) → subset < 4 → get_or (get_or rows subset []) x 0 ≡ joined_word rows (x * 4 + subset)
unfolding joined_word
four_word rows x subset l =
    let number : (x * 4 + subset) % 4 ≡ subset = omega arith in
    let word : (x * 4 + subset) / 4 ≡ x = omega arith in
    rw (number, word)

pub joined_row_lem : (pairs0 pairs1 : List ℕ) (x : ℕ) (four : List (List ℕ)) (row : List ℕ) → four ≡ tabulate 4 (subset_row_at pairs0 pairs1 x)
    → row ≡ joined four → row ≡ joined_row pairs0 pairs1 x
unfolding joined_row
joined_row_lem pairs0 pairs1 x four row p q = q ∙ ap joined p

-- Byte y of the eight of a column in which block row x of each subset stands: half y div 4 of a word of subset y mod 4.
pub eight_byte : (rows : List (List ℕ)) (column x y w : ℕ)
    → w ≡ subset_word rows (y % 4) (record { 0 = 16 * x }) (8 * (column % 16) + column / 16) → w < 2 ^ 16 → x < 21 → y < 8
    → w / 2 ^ (8 - 8 * (y / 4)) % 256 ≡ column_byte rows column (x * 8 + y)
unfolding column_byte byte_of output_bit parts_bit subset_word
eight_byte rows column x y w q lw lx ly =
    half_is w (y / 4) lw (omega arith)
    ∙ from_bits_ext 8 (λ c. bit_of 16 w (8 * (y / 4) + c)) (λ c. output_bit rows ((column * 168 + (x * 8 + y)) * 8 + c))
    (λ c l. ap (λ b. b % 2) (here c l))
  where
    here : (c : ℕ) → c < 8 → bit_of 16 w (8 * (y / 4) + c) ≡ output_bit rows ((column * 168 + (x * 8 + y)) * 8 + c)
    here c l =
        let n : (column * 168 + (x * 8 + y)) * 8 + c ≡ 1344 * column + 32 * (2 * x + y / 4) + 8 * (y % 4) + c = omega arith in
        let t : 2 * x + y / 4 < 42 = omega arith in
        let s : y % 4 < 4 = omega arith in
        let row : 16 * x / 16 ≡ (8 * (2 * x + y / 4) + c) / 16 = omega arith in
        let bit_row_lem : 8 * (y / 4) + c ≡ (8 * (2 * x + y / 4) + c) % 16 = omega arith in
        rw (
          part_column _ column (2 * x + y / 4) (y % 4) c t s l n,
          part_t _ column (2 * x + y / 4) (y % 4) c t s l n,
          part_subset _ column (2 * x + y / 4) (y % 4) c t s l n,
          part_b _ column (2 * x + y / 4) (y % 4) c t s l n,
          q,
          row,
          bit_row_lem,
        )

-- Of reordered block rows the output bits are the buffer's.
module _ (pairs0 pairs1 : List ℕ) (rows : List (List ℕ)) (h : rows ≡ tabulate 21 (joined_row pairs0 pairs1)) where
  subset_word_lem : (subset : ℕ) (q : SubsetBitRow) (x : ℕ) → subset < 4 → q.0 < 336 → x < 128
      → subset_word rows subset q x ≡ get_or (reordered_row pairs0 pairs1 (block_row_of subset q).0) x 0
  unfolding subset_word joined_row joined joined_word subset_row_at
  subset_word_lem subset q x ls lq lx =
      ap (λ t. get_or (get_or t (q.0 / 16) []) (4 * x + subset) 0) h
      ∙ ap (λ r. get_or r (4 * x + subset) 0) (get_d_tabulate 21 (joined_row pairs0 pairs1) (q.0 / 16) [] (omega arith))
      ∙ get_d_tabulate 512 (joined_word (tabulate 4 (subset_row_at pairs0 pairs1 (q.0 / 16)))) (4 * x + subset) 0 (omega arith)
      ∙ ap₂ (λ u v. get_or (get_or (tabulate 4 (subset_row_at pairs0 pairs1 (q.0 / 16))) u []) v 0) number word
      ∙ ap (λ r. get_or r x 0)
      (get_d_tabulate 4 (subset_row_at pairs0 pairs1 (q.0 / 16)) subset [] ls
      ∙ ap (λ n. reordered_row pairs0 pairs1 (first_of subset + 2 * n)) (again (q.0 / 16)))
    where
      number : (4 * x + subset) % 4 ≡ subset
      number = omega arith

      word : (4 * x + subset) / 4 ≡ x
      word = omega arith

      again : (n : ℕ) → 16 * n / 16 ≡ n
      again n = omega arith

  reordered_place : (k : BlockRow) (C i j : ℕ) → i < 16 → j < 16
      → bit_at (reordered_block pairs0 pairs1 k C) j i
      ≡ bit (pairs_of pairs0 pairs1 (k.0 % 2)) (pairs_bit (k.0 / 2) C (source_row i j) (source_column i j))
  unfolding reordered_block sent_block pairs_place
  reordered_place k C i j li lj =
      transposed_bit (reordered (sent_block pairs0 pairs1 k C)) i j li lj
      ∙ bit_at_reordered (sent_block pairs0 pairs1 k C) i j li lj
      ∙ bit_at_block_of (pairs_place (pairs_of pairs0 pairs1 (k.0 % 2)) k C)
      (λ r c. bit_lt (pairs_of pairs0 pairs1 (k.0 % 2)) (pairs_bit (k.0 / 2) C r c))
      (source_row i j) (source_column i j) (source_row_lt i j) (source_column_lt i j)

  output_bit_lem : (n : ℕ) → n < 172032 → output_bit rows n ≡ interleaved_bit pairs0 pairs1 n
  unfolding output_bit parts_bit reordered_row interleaved_bit source_of encoder_of row_of block_of bit_row_of column_of
  output_bit_lem n ln =
      ap (λ w. bit_of 16 w (place_row n).0)
      (subset_word_lem (subset_of n) (record { 0 = 8 * t_of n + b_of n }) (8 * place_column n + out_column n / 16) (omega arith) (omega arith) (omega arith))
      ∙ laid_bit (reordered_block pairs0 pairs1 (out_block_row n)) (out_column n / 16) (place_column n) (place_row n).0 (omega arith) (last (out_column n))
      ∙ reordered_place (out_block_row n) (out_column n / 16) (place_row n).0 (place_column n) (last (8 * t_of n + b_of n)) (last (out_column n))
    where
      last : (x : ℕ) → x % 16 < 16
      last x = omega arith

pub interleaved_rows : (pairs0 pairs1 : List ℕ) (rows : List (List ℕ)) (bits : List ℕ) → rows ≡ tabulate 21 (joined_row pairs0 pairs1)
    → bits ≡ pack 21504 (output_bit rows) → bits ≡ interleaved pairs0 pairs1
unfolding interleaved
interleaved_rows pairs0 pairs1 rows bits h e =
    e ∙ pack_ext 21504 (output_bit rows) (interleaved_bit pairs0 pairs1) (λ n l. output_bit_lem pairs0 pairs1 rows h n (omega arith))

-- ---- from bits to pairs, as code finds them

-- The bit rows of a column of a block are two bytes, four apart.
pub line_word : (bits : List ℕ) (k : BlockRow) (C j at n : ℕ) → ((i : ℕ) → get_or bits i 0 < 256) → at * 8 ≡ output_at k (record { 0 = 0 }) (16 * C + j)
    → n ≡ from_be_bytes w16 (get_or bits at 0 ∷ get_or bits (at + 4) 0 ∷ []) → n ≡ row_word (line_column bits k C) j
unfolding row_word line_column line_place
line_word bits k C j at n bytes e p =
    p
    ∙ omega arith
    ∙ two_bytes bits at (at + 4) (get_or bits at 0) (get_or bits (at + 4) 0) (line_column bits k C j) refl refl (bytes at) (bytes (at + 4))
    (λ i l. ap (bit bits) (output_upper k (16 * C + j) at i e l)) (λ i l. ap (bit bits) (output_lower k (16 * C + j) at i e l))

line_lt : (bits : List ℕ) (k : BlockRow) (C i j : ℕ) → line_place bits k C i j < 2
unfolding line_place
line_lt bits k C i j = bit_lt bits (output_at k (record { 0 = i }) (16 * C + j))

pub restored_block_lem : (bits : List ℕ) (k : BlockRow) (C : ℕ) (b r : List ℕ) → b ≡ line_columns bits k C → r ≡ restored (transposed b)
    → r ≡ restored_block bits k C
unfolding restored_block line_column transposed moved
restored_block_lem bits k C b r p q =
    q ∙ ap (λ s. restored (transposed s)) p
    ∙ ap restored
    (block_ext (λ i j. bit_at (block (line_column bits k C)) j i) (line_place bits k C)
    (λ i j li lj. bit_at_block_of (line_column bits k C) (λ u v. line_lt bits k C v u) j i lj li))

-- Of a restored block row, each bit is that of the encoder's pairs which stands there.
from_at : (e m : ℕ)
    → output_at (block_row e (m / 2048)) (record { 0 = target_row (m % 2048 / 128) (m % 16) }) (16 * (m % 128 / 16) + target_column (m % 2048 / 128) (m % 16)) ≡ output_from e m
unfolding output_from output_for
from_at e m = refl

module _ (bits : List ℕ) where
  restored_place : (k : BlockRow) (C r c : ℕ) → r < 16 → c < 16
      → bit_at (restored_block bits k C) r c ≡ bit bits (output_at k (record { 0 = target_row r c }) (16 * C + target_column r c))
  unfolding restored_block line_place
  restored_place k C r c lr lc =
      bit_at_restored (line_block bits k C) r c lr lc
      ∙ bit_at_block_of (line_place bits k C) (λ i j. bit_lt bits (output_at k (record { 0 = i }) (16 * C + j)))
      (target_row r c) (target_column r c) (target_row_lt r c) (target_column_lt r c)

  restored_bit_lem : (e m : ℕ) → e < 2 → m < 86016
      → bit_of 16 (get_or (restored_row bits (2 * (m / 2048) + e)) (8 * (m % 2048 / 128) + m % 128 / 16) 0) (m % 16) ≡ bit bits (output_of e m)
  unfolding restored_row
  restored_bit_lem e m le lm =
      laid_bit (restored_block bits (block_row e (m / 2048))) (m % 128 / 16) (m % 2048 / 128) (m % 16) (omega arith) (omega arith)
      ∙ restored_place (block_row e (m / 2048)) (m % 128 / 16) (m % 2048 / 128) (m % 16) (omega arith) (omega arith)
      ∙ ap (bit bits) (from_at e m ∙ sym (output_of_is e m le lm))

  -- The bytes of block row 2r+e are those of row r of encoder e's pairs.
  pub row_bytes : (e r : ℕ) (row ys : List ℕ) → e < 2 → r < 42 → row ≡ restored_row bits (2 * r + e) → ys ≡ tabulate 256 (row_byte row)
      → ys ≡ tabulate 256 (λ y. byte_of (λ m. bit bits (output_of e m)) (r * 256 + y))
  unfolding byte_of row_byte
  row_bytes e r row ys le lr p q =
      q ∙ tabulate_ext 256 (row_byte row) (λ y. byte_of (λ m. bit bits (output_of e m)) (r * 256 + y))
      (λ y l. from_bits_ext 8 (λ c. bit_of 16 (get_or row (y / 2) 0) (8 * (y % 2) + c)) (λ c. bit bits (output_of e ((r * 256 + y) * 8 + c)))
      (λ c lc. ap (λ b. b % 2) (ap (λ t. bit_of 16 (get_or t (y / 2) 0) (8 * (y % 2) + c)) p ∙ here y c l lc)))
    where
      here : (y c : ℕ) → y < 256 → c < 8
          → bit_of 16 (get_or (restored_row bits (2 * r + e)) (y / 2) 0) (8 * (y % 2) + c) ≡ bit bits (output_of e ((r * 256 + y) * 8 + c))
      here y c l lc =
          let number : ((r * 256 + y) * 8 + c) / 2048 ≡ r = omega arith in
          let word : 8 * (((r * 256 + y) * 8 + c) % 2048 / 128) + ((r * 256 + y) * 8 + c) % 128 / 16 ≡ y / 2 = omega arith in
          let column : ((r * 256 + y) * 8 + c) % 16 ≡ 8 * (y % 2) + c = omega arith in
          rw (number, word, column) at (restored_bit_lem e ((r * 256 + y) * 8 + c) le (omega arith))

-- The invariant of the loop over the rows of encoder e: none / more / done.
pub record PairRows (bits : List ℕ) (e r : ℕ) (pairs : List ℕ) : Type 0 where
  pub rows : Blocks (byte_of (λ m. bit bits (output_of e m))) 256 42 r pairs

pub rows_none : (bits : List ℕ) (e : ℕ) (d : List ℕ) → length d ≡ 10752 → PairRows bits e 0 d
rows_none bits e d l = record { rows = blocks_none (byte_of (λ m. bit bits (output_of e m))) 256 42 d l }

pub rows_more : {bits : List ℕ} {e r : ℕ} {d : List ℕ} (a z : ℕ) (row ys : List ℕ) → PairRows bits e r d → e < 2 → r < 42
    → row ≡ restored_row bits (2 * r + e) → ys ≡ tabulate 256 (row_byte row)
    → a ≡ r * 256 → z ≡ a + 256
    → PairRows bits e (r + 1) (put_mid a (z - a) d ys)
rows_more {bits} {e} {r} a z row ys h le lr p q s t = record { rows = blocks_next a z ys h.rows lr s t (row_bytes bits e r row ys le lr p q) }

pub rows_done : {bits : List ℕ} {e r : ℕ} {d : List ℕ} → PairRows bits e r d → 42 ≤ r → d ≡ apart bits e
unfolding apart pack
rows_done h l = blocks_done 10752 h.rows l refl

pub ruleset by_rows = (rows_none, rows_more, rows_done)
