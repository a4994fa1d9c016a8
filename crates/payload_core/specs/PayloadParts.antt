-- The payload in parts as the code makes it from numbers of sixteen bits: 16 bits of each word for each of six blocks, then 15 bits of each
-- word.
-- Assumes nothing.
use Rattle.std.specs.Prelude.{◌≡◌, List, ℕ, zero, suc, ◌+◌, ◌-◌, ◌*◌, ◌/◌, ◌%◌, ◌^◌, ◌<◌, length, get_or}
use Rattle.std.proofs.Math.Path.{refl, ap}
use Rattle.std.proofs.Common.{sym, ap₂, ◌∙◌, arith, shr-shr}
use borrow.Rule.Slice.PartMut.{put_mid}
use Rattle.bits.specs.Bits.{bit_of, byte_of, from_bits, pack}
use Rattle.bits.proofs.BitLaws.{from_bits_lt, from_bits_ext, from_bits_bit_of}
use Rattle.bits.specs.Lists.{tabulate}
use Rattle.bits.specs.ListLaws.{tabulate_ext}
use Rattle.bits.specs.Tests.{grid}
use Rattle.blocks.specs.Moves.{turned}
use Rattle.blocks.specs.MoveLaws.{turned_bit}
use Rattle.pair_words_core.specs.BackHalves.{payload_source, payload_low, payload_last}
use Rattle.pair_words_core.specs.Halves.{halves_bit, payload_in}
use Rattle.payload_core.specs.NumberBits.{behind, behind_both, behind_split, bits_amid, number_low}
use Rattle.payload_core.specs.NumberBits.{byte_of_number, pack_number, pack_part, two_lent}
use Rattle.payload_core.specs.RowBytes.{row_by_blocks, half_byte, block_byte, blocks_byte, row_byte_lem}

-- Bit i of what six blocks of the words give, and of what block 6 gives.
unfoldable pub first_bit : List ℕ → ℕ → ℕ
first_bit halves i = halves_bit halves (i % 512 / 16 * 128 + i / 512 * 16 + i % 16)

unfoldable pub last_bit : List ℕ → ℕ → ℕ
last_bit halves i = halves_bit halves (i / 15 * 128 + 96 + i % 15)

-- Bit k of number n, which stands eight columns further on,
number_bit : (s : List ℕ) (n k i : ℕ) → k < 16 → i ≡ n * 16 + k → halves_bit s i ≡ bit_of 16 (get_or s n 0) ((k + 8) % 16)
unfolding halves_bit
number_bit s n k i l e =
    let d : i / 16 ≡ n = omega arith in
    let m : (i + 8) % 16 ≡ (k + 8) % 16 = omega arith in
    rw (d, m)

-- so that byte 0 is the lower.
byte_bits : (x h : ℕ) → h < 2 → x / 256 ^ h % 256 ≡ from_bits 8 (λ k. bit_of 16 x ((h * 8 + k + 8) % 16))
unfolding bit_of
byte_bits x h l =
    ap (λ d. x / d % 256) (power h l) ∙ sym (number_low 8 (x / 2 ^ (8 * h)))
    ∙ from_bits_ext 8 (bit_of 8 (x / 2 ^ (8 * h))) (λ k. bit_of 16 x ((h * 8 + k + 8) % 16))
    (λ k lk. ap (λ u. u % 2 % 2) (shr-shr x (8 * h) (8 - 1 - k) ∙ ap (λ i. x / 2 ^ i) (place h k l lk)))
  where
    power : (h : ℕ) → h < 2 → 256 ^ h ≡ 2 ^ (8 * h)
    power zero l = refl
    power (suc zero) l = refl
    power (suc (suc h)) l = absurd (omega arith)

    place : (h k : ℕ) → h < 2 → k < 8 → 8 * h + (8 - 1 - k) ≡ 16 - 1 - (h * 8 + k + 8) % 16
    place = grid 2 8 (λ h k. 8 * h + (8 - 1 - k)) (λ h k. 16 - 1 - (h * 8 + k + 8) % 16) tt

-- ---- six blocks

-- Byte h of block C of word w is among the bytes of six blocks.
number_byte : (s : List ℕ) (c w h j : ℕ) → w < 32 → h < 2 → j ≡ c * 64 + 2 * w + h
    → get_or s (8 * w + c) 0 / 256 ^ h % 256 ≡ byte_of (first_bit s) j
unfolding byte_of first_bit
number_byte s c w h j lw lh e =
    byte_bits (get_or s (8 * w + c) 0) h lh
    ∙ from_bits_ext 8 (λ k. bit_of 16 (get_or s (8 * w + c) 0) ((h * 8 + k + 8) % 16)) (λ k. first_bit s (j * 8 + k))
    (λ k lk.
    let a : (j * 8 + k) % 512 / 16 ≡ w = omega arith in
    let b : (j * 8 + k) / 512 ≡ c = omega arith in
    let d : (j * 8 + k) % 16 ≡ h * 8 + k = omega arith in
    ap (λ b. b % 2) (rw (a, b, d) (sym (number_bit s (8 * w + c) (h * 8 + k) _ (omega arith) (omega arith)))))

-- What both rows by blocks give are these bytes, one by one
blocks_byte_lem : (s : List ℕ) (j : ℕ) → j < 384 → blocks_byte (row_by_blocks s 0) (row_by_blocks s 1) j ≡ byte_of (first_bit s) j
unfolding blocks_byte block_byte half_byte
blocks_byte_lem s j l =
    row_byte_lem s (j / 64) (j % 64 / 32) (j % 64 % 32 / 2) (j % 64 % 32 % 2) (omega arith) (omega arith) (omega arith)
    ∙ number_byte s (j / 64) (16 * (j % 64 / 32) + j % 64 % 32 / 2) (j % 64 % 32 % 2) j (omega arith) (omega arith) (omega arith)

-- and all together.
blocks_are : (s x y ys : List ℕ) → x ≡ row_by_blocks s 0 → y ≡ row_by_blocks s 1 → ys ≡ tabulate 384 (blocks_byte x y) → ys ≡ pack 384 (first_bit s)
unfolding pack
blocks_are s x y ys p q e =
    e ∙ ap₂ (λ a b. tabulate 384 (blocks_byte a b)) p q
    ∙ tabulate_ext 384 (blocks_byte (row_by_blocks s 0) (row_by_blocks s 1)) (byte_of (first_bit s)) (blocks_byte_lem s)

-- ---- block 6

pub fifteen_is : (s : List ℕ) (w v x r : ℕ) → r ≡ x / 2 → x ≡ turned v 8 → v ≡ get_or s (8 * w + 6) 0 → r < 2 ^ 15
    → r ≡ from_bits 15 (behind (w * 15) (last_bit s))
unfolding behind last_bit
fifteen_is s w v x r h t e l =
    omega (arith, bits_amid 0 15 1 (bit_of 16 x), from_bits_bit_of 16 x (omega arith))
    ∙ from_bits_ext 15 (λ k. bit_of 16 x (0 + k)) (λ k. last_bit s (w * 15 + k))
    (λ k lk.
    let d : (w * 15 + k) / 15 ≡ w = omega arith in
    let m : (w * 15 + k) % 15 ≡ k = omega arith in
    let z : 0 + k ≡ k = omega arith in
    ap (λ b. b % 2)
    (rw (d, m, z, t, e) (turned_bit (get_or s (8 * w + 6) 0) 8 k (omega arith) ∙ sym (number_bit s (8 * w + 6) k _ (omega arith) (omega arith)))))

-- The bits of one of four words.
pub fifteen_of_lem : (f : ℕ → ℕ) (w i x : ℕ) → x ≡ from_bits 15 (behind ((w + i) * 15) f) → x ≡ from_bits 15 (behind (i * 15) (behind (w * 15) f))
fifteen_of_lem f w i x e = behind_both 15 (i * 15) (w * 15) ((w + i) * 15) x f (omega arith) e

-- Byte j of eight.
pub byte_of_64 : (v j : ℕ) → v < 2 ^ 64 → j < 8 → v / 2 ^ (56 - 8 * j) % 256 ≡ byte_of (bit_of 64 v) j
byte_of_64 v j l lj = byte_of_number 64 v j (56 - 8 * j) l (omega arith)

-- Two numbers of 60 bits as two of 64 that share eight.
module _ (f : ℕ → ℕ) (a b : ℕ) (p : a ≡ from_bits 60 f) (q : b ≡ from_bits 60 (behind 60 f)) where
  first_64 : a * 16 + b / 2 ^ 56 ≡ from_bits 64 f
  first_64 = omega (arith, p, q, behind_split 60 4 f, behind_split 4 56 (behind 60 f), from_bits_lt 56 (behind 4 (behind 60 f)))

  last_64 : a % 16 * 2 ^ 60 + b ≡ from_bits 64 (behind 56 f)
  last_64 =
      let r : b ≡ from_bits 60 (behind 4 (behind 56 f)) = behind_both 60 4 56 60 b f refl q in
      omega (arith, p, r, behind_split 56 4 f, behind_split 4 60 (behind 56 f), from_bits_lt 4 (behind 56 f))

  joined_64 : (d ys zs : List ℕ) → length d ≡ 15 → ys ≡ pack 8 (bit_of 64 (a * 16 + b / 2 ^ 56))
      → zs ≡ pack 8 (bit_of 64 (a % 16 * 2 ^ 60 + b)) → put_mid 7 8 (put_mid 0 8 d ys) zs ≡ pack 15 f
  unfolding pack behind
  joined_64 d ys zs long ey ez =
      two_lent (byte_of f) 15 8 7 8 d ys zs long (omega arith) (omega arith) refl
      (ey ∙ pack_number 8 (a * 16 + b / 2 ^ 56) f first_64 ∙ pack_part 8 0 f f (λ i l. ap f (omega arith)))
      (ez ∙ pack_number 8 (a % 16 * 2 ^ 60 + b) (behind 56 f) last_64 ∙ pack_part 8 7 f (behind 56 f) (λ i l. refl))

-- The last bits of eight words,
pub eight_words : (f : ℕ → ℕ) (g a b : ℕ) (d ys zs : List ℕ) → ys ≡ pack 8 (bit_of 64 (a * 16 + b / 2 ^ 56))
    → zs ≡ pack 8 (bit_of 64 (a % 16 * 2 ^ 60 + b)) → a ≡ from_bits 60 (behind (g * 8 * 15) f) → b ≡ from_bits 60 (behind ((g * 8 + 4) * 15) f)
    → length d ≡ 15 → put_mid 7 8 (put_mid 0 8 d ys) zs ≡ pack 15 (behind (g * 120) f)
eight_words f g a b d ys zs ey ez p q long =
    let e : g * 8 * 15 ≡ g * 120 = omega arith in
    joined_64 (behind (g * 120) f) a b (p ∙ ap (λ n. from_bits 60 (behind n f)) e)
    (behind_both 60 60 (g * 120) ((g * 8 + 4) * 15) b f (omega arith) q)
    d ys zs long ey ez

-- and these among all.
pub eight_part : (f : ℕ → ℕ) (g : ℕ) (ys : List ℕ) → ys ≡ pack 15 (behind (g * 120) f) → ys ≡ tabulate 15 (λ i. byte_of f (g * 15 + i))
unfolding behind
eight_part f g ys e = e ∙ pack_part 15 (g * 15) f (behind (g * 120) f) (λ i l. ap f (omega arith))

pub ruleset lastwise = (fifteen_is, fifteen_of_lem)

-- ---- both

pub payload_parts : (s x y d ys zs : List ℕ) → length d ≡ 444 → x ≡ row_by_blocks s 0 → y ≡ row_by_blocks s 1 → ys ≡ tabulate 384 (blocks_byte x y)
    → zs ≡ pack 60 (last_bit s) → put_mid 384 60 (put_mid 0 384 d ys) zs ≡ payload_in s
unfolding payload_in pack first_bit last_bit
payload_parts s x y d ys zs long ex ey eb ez =
    two_lent (byte_of (λ i. halves_bit s (payload_source i))) 444 384 384 60 d ys zs long (omega arith) (omega arith) refl
    (blocks_are s x y ys ex ey eb ∙ pack_part 384 0 (λ i. halves_bit s (payload_source i)) (first_bit s) first)
    (ez ∙ pack_part 60 384 (λ i. halves_bit s (payload_source i)) (last_bit s) last)
  where
    first : (i : ℕ) → i < 3072 → first_bit s i ≡ halves_bit s (payload_source (0 + i))
    first i l =
        let z : 0 + i ≡ i = omega arith in
        rw (z, payload_low i l)

    last : (i : ℕ) → i < 480 → last_bit s i ≡ halves_bit s (payload_source (3072 + i))
    last i l = ap (halves_bit s) (omega (arith, payload_last (3072 + i) (omega arith)))
