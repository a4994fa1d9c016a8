-- The law of 02, E3: "For every row and history the sixteen gathered equal those of each word worked alone, which with its parity are zero
-- exactly for code words." It is stated over the weight q of a place, once for S1, S3 and parity, and over any bits of rows: whatever forms
-- the sums, and whoever holds the rows, stands on it.
-- Assumes nothing.
use Rattle.std.specs.Prelude.{◌≡◌, Bool, List, ◌++◌, ℕ, ◌+◌, ◌-◌, ◌*◌, ◌/◌, ◌%◌, ◌^◌, ◌<◌, ltb, eqb}
use Rattle.std.proofs.Math.Path.{refl, sym, ap, ap₂}
use Rattle.std.proofs.Common.{◌∙◌, mul-zero, lt-ltb, le-ltb, eq-eqb, ne_eqb}
use Rattle.std.proofs.Math.Bool.{true, false, cond}
use Rattle.std.proofs.Math.Nat.{mul-one, zero-mul}
use native.Mathlib.Omega.{arith}
use Rattle.bits.proofs.BitLaws.{bit_lt}
use Rattle.bits.specs.Xor.{◌⊕◌, xor_sum}
use Rattle.bits.proofs.XorLaws.{⊕_assoc, ⊕_self, ⊕_zero, ⊕_lt, xor_sum_ext, xor_sum_none, xor_sum_one, xor_sum_split, xor_sum_exchange}
use Rattle.gf256.specs.Field.{cube}
use Rattle.word_spec.specs.CodeWord.{parity, CodeWord}
use Rattle.word_spec.specs.Syndromes.{locator, S1, S3}
use Rattle.word_spec.proofs.SyndromeLaws.{code_S1, code_S3, zero_code}
use Rattle.pair_spec.specs.History.{held_bits}
use Rattle.pair_spec.specs.Pairs.{pair_index, word_row, word_bit_row}
use Rattle.pair_spec.specs.Receiving.{held_word}
use Rattle.pair_spec.specs.Rows.{RowBits, front_bit, back_bit, front_counts, word_of}
use Rattle.pair_spec.proofs.RowLaws.{word_lt}
use Rattle.gathering_spec.proofs.SumLaws.{xor_sum_blocks}
use Rattle.gathering_spec.proofs.ParityLaws.{parity_sum}
use Rattle.gathering_spec.specs.Sums.{Gathered, Parities}
use Rattle.gathering_spec.specs.Gathering.{bit_row_at, block_at, column_at, back_share, front_share, gathered_sum, GatheredRows}

-- ---- sums over sixteen places

⊕_back : (j r : ℕ) → (j ⊕ r) ⊕ r ≡ j
⊕_back j r = ⊕_assoc j r r ∙ ap (λ u. j ⊕ u) (⊕_self r) ∙ ⊕_zero j

-- In the order of j^r.
exchanged : (f : ℕ → ℕ) (r : ℕ) → r < 16 → xor_sum 16 f ≡ xor_sum 16 (λ j. f (j ⊕ r))
exchanged f r l =
    xor_sum_ext 16 f (λ i. xor_sum 16 (g i)) (λ i li. sym (there i li)) ∙ xor_sum_exchange 16 16 g
    ∙ xor_sum_ext 16 (λ j. xor_sum 16 (λ i. g i j)) (λ j. f (j ⊕ r)) here
  where
    g : ℕ → ℕ → ℕ
    g i j = cond (eqb i (j ⊕ r)) (f i) 0

    here : (j : ℕ) → j < 16 → xor_sum 16 (λ i. g i j) ≡ f (j ⊕ r)
    here j lj =
        xor_sum_one 16 (j ⊕ r) (λ i. g i j) (⊕_lt 4 j r lj l) (λ i li n. simp (ne_eqb i (j ⊕ r) n)) ∙ simp (eq-eqb (j ⊕ r) (j ⊕ r) refl)

    there : (i : ℕ) → i < 16 → xor_sum 16 (g i) ≡ f i
    there i li =
        xor_sum_one 16 (i ⊕ r) (g i) (⊕_lt 4 i r li l) (λ j lj n. simp (ne_eqb i (j ⊕ r) (λ e. n (sym (⊕_back j r) ∙ ap (λ u. u ⊕ r) (sym e)))))
        ∙ simp (eq-eqb i ((i ⊕ r) ⊕ r) (sym (⊕_back i r)))

-- A row in byte order is bit row by bit row, block by block, column by column.
by_columns : (f : ℕ → ℕ) → xor_sum 2048 f ≡ xor_sum 16 (λ i. xor_sum 8 (λ C. xor_sum 16 (λ c. f (i * 128 + (C * 16 + c)))))
by_columns f = xor_sum_blocks 16 128 f ∙ xor_sum_ext 16 (λ i. xor_sum 128 (λ m. f (i * 128 + m))) (λ i. xor_sum 8 (λ C. xor_sum 16 (λ c. f (i * 128 + (C * 16 + c))))) (λ i l. xor_sum_blocks 8 16 (λ m. f (i * 128 + m)))

bit_row_lem : (i C c : ℕ) → C < 8 → c < 16 → (i * 128 + (C * 16 + c)) / 128 ≡ i
bit_row_lem i C c lC lc = omega arith

block : (i C c : ℕ) → C < 8 → c < 16 → (i * 128 + (C * 16 + c)) % 128 / 16 ≡ C
block i C c lC lc = omega arith

column : (i C c : ℕ) → c < 16 → (i * 128 + (C * 16 + c)) % 16 ≡ c
column i C c lc = omega arith

module _ (q : ℕ → ℕ) (v : RowBits) (R r : ℕ) (lr : r < 16) where
  -- ---- the back half

  back_word : (C j : ℕ) → C < 8 → j < 16 → word_of v R r (128 + (C * 16 + j)) ≡ v R C r (j ⊕ r)
  unfolding word_of back_bit
  back_word C j lC lj =
      let d : (128 + (C * 16 + j) - 128) / 16 ≡ C = omega arith in
      let m : (128 + (C * 16 + j)) % 16 ≡ j = omega arith in
      simp (le-ltb (128 + (C * 16 + j)) 128 (omega arith), d, m)

  own_row : (C : ℕ) → C < 8
      → xor_sum 16 (λ c. v R C r c * q (128 + (16 * C + (c ⊕ r)))) ≡ xor_sum 16 (λ j. word_of v R r (128 + (C * 16 + j)) * q (128 + (C * 16 + j)))
  own_row C lC =
      exchanged (λ c. v R C r c * q (128 + (16 * C + (c ⊕ r)))) r lr
      ∙ xor_sum_ext 16 (λ j. v R C r (j ⊕ r) * q (128 + (16 * C + ((j ⊕ r) ⊕ r)))) (λ j. word_of v R r (128 + (C * 16 + j)) * q (128 + (C * 16 + j)))
      (λ j lj. ap₂ ◌*◌ (sym (back_word C j lC lj)) (ap q (place C j)))
    where
      place : (C j : ℕ) → 128 + (16 * C + ((j ⊕ r) ⊕ r)) ≡ 128 + (C * 16 + j)
      place C j = ap (λ u. 128 + (16 * C + u)) (⊕_back j r) ∙ omega arith

  back_share_lem : (i C c : ℕ) → C < 8 → c < 16 → back_share q r (i * 128 + (C * 16 + c)) ≡ cond (eqb i r) (q (128 + (16 * C + (c ⊕ i)))) 0
  unfolding back_share
  back_share_lem i C c lC lc = rw (bit_row_lem i C c lC lc, block i C c lC lc, column i C c lc) refl

  back_gathered : xor_sum 2048 (λ n. v R (block_at n) (bit_row_at n) (column_at n) * back_share q r n) ≡ xor_sum 128 (λ k. word_of v R r (128 + k) * q (128 + k))
  back_gathered =
      by_columns (λ n. v R (block_at n) (bit_row_at n) (column_at n) * back_share q r n)
      ∙ xor_sum_ext 16 _ (λ i. xor_sum 8 (λ C. xor_sum 16 (λ c. v R C i c * cond (eqb i r) (q (128 + (16 * C + (c ⊕ i)))) 0)))
      (λ i li. xor_sum_ext 8 _ (λ C. xor_sum 16 (λ c. v R C i c * cond (eqb i r) (q (128 + (16 * C + (c ⊕ i)))) 0))
      (λ C lC. xor_sum_ext 16 _ (λ c. v R C i c * cond (eqb i r) (q (128 + (16 * C + (c ⊕ i)))) 0)
      (λ c lc. ap₂ ◌*◌ (rw (bit_row_lem i C c lC lc, block i C c lC lc, column i C c lc) refl) (back_share_lem i C c lC lc))))
      ∙ xor_sum_one 16 r (λ i. xor_sum 8 (λ C. xor_sum 16 (λ c. v R C i c * cond (eqb i r) (q (128 + (16 * C + (c ⊕ i)))) 0))) lr
      (λ i li n. xor_sum_none 8 _ (λ C lC. xor_sum_none 16 _ (λ c lc. ap (λ u. v R C i c * u) (simp (ne_eqb i r n)) ∙ mul-zero (v R C i c))))
      ∙ xor_sum_ext 8 (λ C. xor_sum 16 (λ c. v R C r c * cond (eqb r r) (q (128 + (16 * C + (c ⊕ r)))) 0)) (λ C. xor_sum 16 (λ j. word_of v R r (128 + (C * 16 + j)) * q (128 + (C * 16 + j))))
      (λ C lC. xor_sum_ext 16 _ (λ c. v R C r c * q (128 + (16 * C + (c ⊕ r)))) (λ c lc. ap (λ u. v R C r c * u) (simp (eq-eqb r r refl))) ∙ own_row C lC)
      ∙ sym (xor_sum_blocks 8 16 (λ k. word_of v R r (128 + k) * q (128 + k)))

  -- ---- the front half

  module _ (full : front_counts R ≡ true) where
    front_word : (C j : ℕ) → C < 8 → j < 16 → word_of v R r (C * 16 + j) ≡ v ((R ⊕ 1) - 20 + 2 * C) C (j ⊕ r) r
    unfolding word_of front_bit
    front_word C j lC lj =
        let d : (C * 16 + j) / 16 ≡ C = omega arith in
        let m : (C * 16 + j) % 16 ≡ j = omega arith in
        simp (lt-ltb (C * 16 + j) 128 (omega arith), full, d, m)

    own_column : (C : ℕ) → C < 8
        → xor_sum 16 (λ i. v ((R ⊕ 1) - 20 + 2 * C) C i r * q (16 * C + (i ⊕ r))) ≡ xor_sum 16 (λ j. word_of v R r (C * 16 + j) * q (C * 16 + j))
    own_column C lC =
        exchanged (λ i. v ((R ⊕ 1) - 20 + 2 * C) C i r * q (16 * C + (i ⊕ r))) r lr
        ∙ xor_sum_ext 16 (λ j. v ((R ⊕ 1) - 20 + 2 * C) C (j ⊕ r) r * q (16 * C + ((j ⊕ r) ⊕ r))) (λ j. word_of v R r (C * 16 + j) * q (C * 16 + j))
        (λ j lj. ap₂ ◌*◌ (sym (front_word C j lC lj)) (ap q (place C j)))
      where
        place : (C j : ℕ) → 16 * C + ((j ⊕ r) ⊕ r) ≡ C * 16 + j
        place C j = ap (λ u. 16 * C + u) (⊕_back j r) ∙ omega arith

    front_share_lem : (i C c : ℕ) → C < 8 → c < 16 → front_share q r (i * 128 + (C * 16 + c)) ≡ cond (eqb c r) (q (16 * C + (i ⊕ c))) 0
    unfolding front_share
    front_share_lem i C c lC lc = rw (bit_row_lem i C c lC lc, block i C c lC lc, column i C c lc) refl

    front_gathered : xor_sum 2048 (λ n. v ((R ⊕ 1) - 20 + 2 * block_at n) (block_at n) (bit_row_at n) (column_at n) * front_share q r n) ≡ xor_sum 128 (λ k. word_of v R r k * q k)
    front_gathered =
        by_columns (λ n. v ((R ⊕ 1) - 20 + 2 * block_at n) (block_at n) (bit_row_at n) (column_at n) * front_share q r n)
        ∙ xor_sum_ext 16 _ (λ i. xor_sum 8 (λ C. v ((R ⊕ 1) - 20 + 2 * C) C i r * q (16 * C + (i ⊕ r))))
        (λ i li. xor_sum_ext 8 _ (λ C. v ((R ⊕ 1) - 20 + 2 * C) C i r * q (16 * C + (i ⊕ r)))
        (λ C lC. xor_sum_ext 16 _ (λ c. v ((R ⊕ 1) - 20 + 2 * C) C i c * cond (eqb c r) (q (16 * C + (i ⊕ c))) 0)
        (λ c lc. ap₂ ◌*◌ (rw (bit_row_lem i C c lC lc, block i C c lC lc, column i C c lc) refl) (front_share_lem i C c lC lc))
        ∙ xor_sum_one 16 r (λ c. v ((R ⊕ 1) - 20 + 2 * C) C i c * cond (eqb c r) (q (16 * C + (i ⊕ c))) 0) lr
        (λ c lc n. ap (λ u. v ((R ⊕ 1) - 20 + 2 * C) C i c * u) (simp (ne_eqb c r n)) ∙ mul-zero (v ((R ⊕ 1) - 20 + 2 * C) C i c))
        ∙ ap (λ u. v ((R ⊕ 1) - 20 + 2 * C) C i r * u) (simp (eq-eqb r r refl))))
        ∙ xor_sum_exchange 16 8 (λ i C. v ((R ⊕ 1) - 20 + 2 * C) C i r * q (16 * C + (i ⊕ r)))
        ∙ xor_sum_ext 8 (λ C. xor_sum 16 (λ i. v ((R ⊕ 1) - 20 + 2 * C) C i r * q (16 * C + (i ⊕ r)))) (λ C. xor_sum 16 (λ j. word_of v R r (C * 16 + j) * q (C * 16 + j))) own_column
        ∙ sym (xor_sum_blocks 8 16 (λ k. word_of v R r k * q k))

  front_zeros : front_counts R ≡ false → 0 ≡ xor_sum 128 (λ k. word_of v R r k * q k)
  unfolding word_of
  front_zeros none =
      sym (xor_sum_none 128 (λ k. cond (ltb k 128) (cond (front_counts R) (front_bit v R r k) 0) (back_bit v R r k) * q k)
      (λ k l. ap (λ u. u * q k) (simp (lt-ltb k 128 l, none)) ∙ zero-mul (q k)))

  -- The sum gathered in byte order is that of the word alone.
  pub gathered_alone : gathered_sum q v R r ≡ xor_sum 256 (λ k. word_of v R r k * q k)
  unfolding gathered_sum
  gathered_alone = ap₂ ◌⊕◌ (front (front_counts R) refl) back_gathered ∙ sym (xor_sum_split 128 128 (λ k. word_of v R r k * q k))
    where
      front : (b : Bool) → front_counts R ≡ b
          → cond b (xor_sum 2048 (λ n. v ((R ⊕ 1) - 20 + 2 * block_at n) (block_at n) (bit_row_at n) (column_at n) * front_share q r n)) 0 ≡ xor_sum 128 (λ k. word_of v R r k * q k)
      front true e = front_gathered e
      front false e = front_zeros e

-- ---- S1, S3 and parity

module _ (v : RowBits) (R r : ℕ) (lr : r < 16) where
  pub gathered_S1 : gathered_sum locator v R r ≡ S1 (word_of v R r)
  unfolding S1
  gathered_S1 = gathered_alone locator v R r lr

  pub gathered_S3 : gathered_sum (λ k. cube (locator k)) v R r ≡ S3 (word_of v R r)
  unfolding S3
  gathered_S3 = gathered_alone (λ k. cube (locator k)) v R r lr

  module _ (bits : (S C a c : ℕ) → v S C a c < 2) where
    pub gathered_parity : gathered_sum (λ k. 1) v R r ≡ parity (word_of v R r)
    unfolding parity
    gathered_parity =
        gathered_alone (λ k. 1) v R r lr ∙ xor_sum_ext 256 (λ k. word_of v R r k * 1) (word_of v R r) (λ k l. mul-one (word_of v R r k))
        ∙ sym (parity_sum 256 (word_of v R r) (λ k. word_lt v bits R r k))

    -- Zero exactly for code words.
    pub gathered_zero : gathered_sum locator v R r ≡ 0 → gathered_sum (λ k. cube (locator k)) v R r ≡ 0 → gathered_sum (λ k. 1) v R r ≡ 0
        → CodeWord (word_of v R r)
    gathered_zero a b c =
        zero_code (word_of v R r) (λ k l. word_lt v bits R r k) (sym gathered_S1 ∙ a) (sym gathered_S3 ∙ b) (sym gathered_parity ∙ c)

    pub gathered_code : CodeWord (word_of v R r)
        → (gathered_sum locator v R r ≡ 0) × (gathered_sum (λ k. cube (locator k)) v R r ≡ 0) × (gathered_sum (λ k. 1) v R r ≡ 0)
    gathered_code c = (gathered_S1 ∙ code_S1 (word_of v R r) c, gathered_S3 ∙ code_S3 (word_of v R r) c, gathered_parity ∙ c.even)

-- ---- what a receiver gathers

-- Whatever gives S1, S3 and parities of the words as they are held gives what is gathered in byte order; circuits or tables alike.
module _ (n : ℕ) (h : List ℕ) (P : ℕ) (p t : List ℕ) (q : ℕ) where
  held_lt : (S C a c : ℕ) → held_bits n (h ++ p) P S C a c < 2
  unfolding held_bits
  held_lt S C a c = bit_lt (h ++ p) (4096 * (S / 2 + n - P) + pair_index (S % 2) C a c)

  pub rows_gathered : Gathered (held_word n h P p) t → Parities (held_word n h P p) q → GatheredRows n h P p t q
  unfolding held_word
  rows_gathered g o =
      record {
        first = λ w i lw li. g.first w i lw li ∙ ap (λ v. v / 2 ^ i % 2) (sym (gathered_S1 (held_bits n (h ++ p) P) (word_row P w) (word_bit_row w) (omega arith)));
        third = λ w i lw li. g.third w i lw li ∙ ap (λ v. v / 2 ^ i % 2) (sym (gathered_S3 (held_bits n (h ++ p) P) (word_row P w) (word_bit_row w) (omega arith)));
        odd = λ w lw. o.parity_of w lw ∙ sym (gathered_parity (held_bits n (h ++ p) P) (word_row P w) (word_bit_row w) (omega arith) held_lt);
      }
