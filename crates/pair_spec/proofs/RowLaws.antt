-- Laws of rows: where each bit of a word stands, and where a row's bit stands in its word.
-- Assumes nothing.
use Rattle.std.specs.Prelude.{◌≡◌, refl, Bool, true, false, cond, ℕ, zero, suc, ◌+◌, ◌-◌, ◌*◌, ◌/◌, ◌%◌, ◌<◌, ◌≤◌, ltb}
use Rattle.std.proofs.Common.{◌∙◌, arith}
use Rattle.std.proofs.Math.Decide.{dec_lt}
use borrow.Author.Tests.{lt-ltb, le-ltb, le-leb, lt-leb}
use Rattle.std.specs.Int.Bits.{differ}
use Rattle.bits.specs.Xor.{◌⊕◌}
use Rattle.bits.proofs.XorLaws.{sums, ⊕_lt, ⊕_half, ⊕_last, ⊕_zero}
use Rattle.pair_spec.specs.Rows.{RowBits, front_bit, back_bit, front_counts, checked, Checked, word_of, payload_index}
use Rattle.pair_spec.specs.RowLaws.{Place, zeros, before, own}

-- ---- exclusive or of columns and rows

pub xor_16 : (a b : ℕ) → a < 16 → b < 16 → a ⊕ b < 16
xor_16 = ⊕_lt 4

pub xor_back : (a b : ℕ) → (a ⊕ b) ⊕ b ≡ a
xor_back a b = simp sums

-- R^1 is the other row of R's pair.
pub other_pair : (R : ℕ) → (R ⊕ 1) / 2 ≡ R / 2
other_pair R = ⊕_half R 1 ∙ ⊕_zero (R / 2)

differ_one : (s : ℕ) → s < 2 → differ s 1 ≡ 1 - s
differ_one zero l = refl
differ_one (suc zero) l = refl
differ_one (suc (suc s)) l = absurd (omega arith)

pub other_row : (R : ℕ) → (R ⊕ 1) % 2 ≡ 1 - R % 2
other_row R = ⊕_last R 1 ∙ differ_one (R % 2) (omega arith)

-- ---- the rows that are checked

pub all_checked : (R : ℕ) → Checked R
unfolding checked
all_checked R = refl

-- ---- the bits of a word

module _ (v : RowBits) (R r k : ℕ) where
  pub word_start : k < 128 → R < 20 → word_of v R r k ≡ 0
  unfolding word_of front_counts
  word_start l m = simp (lt-ltb _ _ l, lt-leb _ _ m)

  pub word_front : k < 128 → 20 ≤ R → word_of v R r k ≡ front_bit v R r k
  unfolding word_of front_counts
  word_front l m = simp (lt-ltb _ _ l, le-leb _ _ m)

  pub word_back : 128 ≤ k → word_of v R r k ≡ back_bit v R r k
  unfolding word_of
  word_back l = simp (le-ltb _ _ l)

pub place : (R r k : ℕ) → r < 16 → k < 256 → Place R r k
unfolding front_bit back_bit
place R r k lr lk = go (dec_lt k 128) (dec_lt R 20)
  where
    go : Dec (k < 128) → Dec (R < 20) → Place R r k
    go (yes l) (yes m) = zeros l (λ v. word_start v R r k l m)
    go (yes l) (no m) =
        before ((R ⊕ 1) - 20 + 2 * (k / 16)) (k / 16) ((k % 16) ⊕ r) r l (omega (arith, other_pair R)) (omega (arith, other_pair R))
        (omega arith) (xor_16 (k % 16) r (omega arith) lr) lr (λ v. word_front v R r k l (omega arith))
    go (no l) m =
        own ((k - 128) / 16) ((k % 16) ⊕ r) (omega arith) (omega arith) (xor_16 (k % 16) r (omega arith) lr) (λ v. word_back v R r k (omega arith))

-- ---- the place of a row's bit in its word

-- V(R, C, r, c) is bit `back_place C r c` of word (R, r).
unfoldable pub back_place : ℕ → ℕ → ℕ → ℕ
back_place C r c = 128 + (16 * C + (c ⊕ r))

pub back_place_low : (C r c : ℕ) → 128 ≤ back_place C r c
unfolding back_place
back_place_low C r c = omega arith

pub back_place_lt : (C r c : ℕ) → C < 8 → r < 16 → c < 16 → back_place C r c < 256
unfolding back_place
back_place_lt C r c lC lr lc = omega (arith, xor_16 c r lc lr)

pub back_bit_at : (v : RowBits) (R C r c : ℕ) → r < 16 → c < 16 → back_bit v R r (back_place C r c) ≡ v R C r c
unfolding back_bit back_place
back_bit_at v R C r c lr lc =
    let small : c ⊕ r < 16 = xor_16 c r lc lr in
    let eC : (128 + (16 * C + (c ⊕ r)) - 128) / 16 ≡ C = omega arith in
    let ec : (128 + (16 * C + (c ⊕ r))) % 16 ≡ c ⊕ r = omega arith in
    rw (eC, ec, xor_back c r)

pub word_at : (v : RowBits) (R C r c : ℕ) → r < 16 → c < 16 → word_of v R r (back_place C r c) ≡ v R C r c
word_at v R C r c lr lc = word_back v R r (back_place C r c) (back_place_low C r c) ∙ back_bit_at v R C r c lr lc

pub back_place_of : (r k : ℕ) → 128 ≤ k → back_place ((k - 128) / 16) r ((k % 16) ⊕ r) ≡ k
unfolding back_place
back_place_of r k l = rw (xor_back (k % 16) r) (omega arith)

-- Words of bits.
pub word_lt : (v : RowBits) → ((R C r c : ℕ) → v R C r c < 2) → (R r k : ℕ) → word_of v R r k < 2
unfolding word_of front_bit back_bit
word_lt v b R r k = go (ltb k 128) (front_counts R)
  where
    go : (s t : Bool)
        → cond s (cond t (v ((R ⊕ 1) - 20 + 2 * (k / 16)) (k / 16) ((k % 16) ⊕ r) r) 0) (v R ((k - 128) / 16) r ((k % 16) ⊕ r)) < 2
    go true true = b _ _ _ _
    go true false = omega arith
    go false t = b _ _ _ _

-- ---- the payload index

-- Within its own pair a payload bit stands where that of row 0 or 1 does.
pub payload_index_own : (R r k : ℕ) → payload_index R r k ≡ 3552 * (R / 2) + payload_index (R % 2) r k
unfolding payload_index
payload_index_own R r k =
    let e : R % 2 / 2 ≡ 0 = omega arith in
    let m : R % 2 % 2 ≡ R % 2 = omega arith in
    rw (e, m) (omega arith)

pub payload_index_low : (s r k : ℕ) → s < 2 → k < 96 → payload_index s r k ≡ 16 * (16 * s + r) + 512 * (k / 16) + k % 16
unfolding payload_index
payload_index_low s r k ls l =
    let z : s / 2 ≡ 0 = omega arith in
    let m : s % 2 ≡ s = omega arith in
    let e : k / 96 ≡ 0 = omega arith in
    rw (z, m, e) (omega arith)

pub payload_index_high : (s r k : ℕ) → s < 2 → 96 ≤ k → k < 111 → payload_index s r k ≡ 3072 + 15 * (16 * s + r) + (k - 96)
unfolding payload_index
payload_index_high s r k ls l m =
    let z : s / 2 ≡ 0 = omega arith in
    let o : s % 2 ≡ s = omega arith in
    let e : k / 96 ≡ 1 = omega arith in
    rw (z, o, e) (omega arith)

pub payload_index_lt : (s r k : ℕ) → s < 2 → r < 16 → k < 111 → payload_index s r k < 3552
payload_index_lt s r k ls lr lk = go (dec_lt k 96)
  where
    go : Dec (k < 96) → payload_index s r k < 3552
    go (yes l) = omega (arith, payload_index_low s r k ls l)
    go (no l) = omega (arith, payload_index_high s r k ls (omega arith) lk)
