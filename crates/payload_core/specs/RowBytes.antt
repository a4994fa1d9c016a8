-- The numbers of a row of halves in order by blocks, and the bytes that they give.
-- Assumes nothing.
use Rattle.std.specs.Prelude.{◌≡◌, refl, List, [], ◌∷◌, ℕ, zero, suc, ◌+◌, ◌*◌, ◌/◌, ◌%◌, ◌^◌, ◌<◌, length, get_or}
use Rattle.std.proofs.Common.{ap, ap₂, ◌∙◌}
use native.Mathlib.Omega.{arith}
use borrow.Rule.Slice.PartMut.{put_mid}
use Rattle.std.specs.Int.{w16, to_le_bytes}
use Rattle.bits.specs.Lists.{tabulate}
use Rattle.bits.specs.ListLaws.{get_d_tabulate, tabulate_ext}
use Rattle.riffle_core.specs.Riffles.{by_blocks}
use Rattle.riffle_core.specs.RiffleLaws.{by_blocks_at}
use Rattle.payload_core.specs.NumberBits.{two_lent}

-- The 128 numbers of row s, eight for each of its sixteen words.
unfoldable pub row_of_halves : List ℕ → ℕ → List ℕ
row_of_halves halves s = tabulate 128 (λ n. get_or halves (128 * s + n) 0)

-- Row s by blocks: number 16C+r is of block C of its word r.
unfoldable pub row_by_blocks : List ℕ → ℕ → List ℕ
row_by_blocks halves s = by_blocks (row_of_halves halves s)

-- Byte j of the 32 that block C of a row by blocks gives: of each number the lower byte, then the upper.
unfoldable pub half_byte : List ℕ → ℕ → ℕ → ℕ
half_byte row c j = get_or row (16 * c + j / 2) 0 / 256 ^ (j % 2) % 256

-- Row 0 or row 1 of two.
unfoldable pub row_of : List ℕ → List ℕ → ℕ → List ℕ
row_of first second zero = first
row_of first second (suc s) = second

-- Byte j of the 64 that block C of two rows gives, one row after the other.
unfoldable pub block_byte : List ℕ → List ℕ → ℕ → ℕ → ℕ
block_byte first second c j = half_byte (row_of first second (j / 32)) c (j % 32)

-- Byte j of the 384 that six blocks give, one after the other.
unfoldable pub blocks_byte : List ℕ → List ℕ → ℕ → ℕ
blocks_byte first second j = block_byte first second (j / 64) (j % 64)

-- ---- what code makes

-- Row s by blocks,
pub by_blocks_made : (halves : List ℕ) (s : ℕ) (x r : List ℕ) → r ≡ by_blocks x → x ≡ row_of_halves halves s → r ≡ row_by_blocks halves s
unfolding row_by_blocks
by_blocks_made halves s x r e p = e ∙ ap by_blocks p

-- the two bytes of a number,
pub half_part : (row : List ℕ) (c r : ℕ) (ys : List ℕ) → ys ≡ to_le_bytes w16 (get_or row (16 * c + r) 0)
    → ys ≡ tabulate 2 (λ i. half_byte row c (r * 2 + i))
unfolding half_byte tabulate
half_part row c r ys e =
    let a : (r * 2 + 0) / 2 ≡ r = omega arith in
    let b : (r * 2 + 0) % 2 ≡ 0 = omega arith in
    let d : (r * 2 + 1) / 2 ≡ r = omega arith in
    let f : (r * 2 + 1) % 2 ≡ 1 = omega arith in
    e ∙ rw (a, b, d, f) (ap₂ (λ x y. x ∷ y ∷ []) (omega arith) (omega arith))

-- the bytes of two rows,
pub both_halves : (first second : List ℕ) (c : ℕ) (d ys zs : List ℕ) → length d ≡ 64 → ys ≡ tabulate 32 (half_byte first c)
    → zs ≡ tabulate 32 (half_byte second c) → put_mid 32 32 (put_mid 0 32 d ys) zs ≡ tabulate 64 (block_byte first second c)
unfolding block_byte row_of
both_halves first second c d ys zs long ey ez =
    two_lent (block_byte first second c) 64 32 32 32 d ys zs long (omega arith) (omega arith) refl
    (ey ∙ tabulate_ext 32 (half_byte first c) (λ k. block_byte first second c (0 + k))
    (λ k l.
    let a : (0 + k) / 32 ≡ 0 = omega arith in
    let b : (0 + k) % 32 ≡ k = omega arith in
    rw (a, b)))
    (ez ∙ tabulate_ext 32 (half_byte second c) (λ k. block_byte first second c (32 + k))
    (λ k l.
    let a : (32 + k) / 32 ≡ 1 = omega arith in
    let b : (32 + k) % 32 ≡ k = omega arith in
    rw (a, b)))

-- and block C among the six.
pub block_part : (first second : List ℕ) (c : ℕ) (ys : List ℕ) → ys ≡ tabulate 64 (block_byte first second c)
    → ys ≡ tabulate 64 (λ j. blocks_byte first second (c * 64 + j))
unfolding blocks_byte
block_part first second c ys e =
    e ∙ tabulate_ext 64 (block_byte first second c) (λ j. blocks_byte first second (c * 64 + j))
    (λ j l.
    let a : (c * 64 + j) / 64 ≡ c = omega arith in
    let b : (c * 64 + j) % 64 ≡ j = omega arith in
    rw (a, b))

-- ---- where a number comes from

-- Place 16C+r of row s by blocks takes block C of word 16s+r.
by_blocks_row : (halves : List ℕ) (s c r : ℕ) → c < 8 → r < 16 → get_or (row_by_blocks halves s) (16 * c + r) 0 ≡ get_or halves (8 * (16 * s + r) + c) 0
unfolding row_by_blocks row_of_halves
by_blocks_row halves s c r lc lr =
    by_blocks_at (row_of_halves halves s) r c lr lc
    ∙ get_d_tabulate 128 (λ n. get_or halves (128 * s + n) 0) (8 * r + c) 0 (omega arith)
    ∙ ap (λ i. get_or halves i 0) (omega arith)

-- The rows are given by their number.
row_of_is : (f : ℕ → List ℕ) (s : ℕ) → s < 2 → row_of (f 0) (f 1) s ≡ f s
unfolding row_of
row_of_is f zero l = refl
row_of_is f (suc zero) l = refl
row_of_is f (suc (suc s)) l = absurd (omega arith)

-- Byte h that number 16C+r of row s gives is that of block C of word 16s+r.
pub row_byte_lem : (halves : List ℕ) (c s r h : ℕ) → c < 8 → s < 2 → r < 16
    → get_or (row_of (row_by_blocks halves 0) (row_by_blocks halves 1) s) (16 * c + r) 0 / 256 ^ h % 256
    ≡ get_or halves (8 * (16 * s + r) + c) 0 / 256 ^ h % 256
row_byte_lem halves c s r h lc ls lr =
    ap (λ row. get_or row (16 * c + r) 0 / 256 ^ h % 256) (row_of_is (row_by_blocks halves) s ls)
    ∙ ap (λ x. x / 256 ^ h % 256) (by_blocks_row halves s c r lc lr)
