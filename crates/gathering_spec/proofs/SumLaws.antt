-- Laws of the sums: what the networks gather is S1 and S3 of every word.
-- Assumes nothing.
use Rattle.std.specs.Prelude.{◌≡◌, Bool, ◌≢◌, List, [], ◌∷◌, ltb, set}
use Rattle.std.proofs.Math.Path.{refl, sym, ap, ap₂}
use Rattle.std.proofs.Common.{◌∙◌, div-add-mod', mod-lt, zero-mul, mul-zero, suc-mul, lt-ltb, le-ltb, pow_pos, shr-shr, get_or-set_other}
use Rattle.std.proofs.Math.Bool.{true, false, cond}
use Prim.Native.Nat.{ℕ, zero, suc, ◌+◌, ◌-◌, ◌*◌, ◌/◌, ◌%◌, ◌^◌, ◌<◌, ◌≤◌}
use native.Mathlib.Omega.{arith}
use Rattle.std.proofs.Math.Decide.{dec_lt}
use Rattle.std.proofs.lemmas.Nat.{xor_mod}
use Rattle.std.proofs.Math.ListN.{get_or}
use Rattle.std.proofs.Math.Pow.{shr_le, high, low}
use Rattle.bits.specs.Bits.{bit_of}
use Rattle.bits.proofs.BitLaws.{bit_of_lt}
use Rattle.bits.specs.ListLaws.{get_d_tabulate}
use Rattle.bits.specs.Xor.{◌⊕◌, xor_sum}
use Rattle.bits.proofs.XorLaws.{sums, ⊕_shr, xor_sum_ext, xor_sum_⊕, xor_sum_split}
use Rattle.gf256.specs.Linear.{Linear, additive, lin, lin_linear, bit_through, sum_through}
use Rattle.gf256.specs.Field.{cube}
use Rattle.gf256.proofs.Field.{cube_zero}
use Rattle.gf256.specs.Tables.{powers, cubed}
use Rattle.gf256.proofs.PowerLaws.{cube_in}
use Rattle.word_spec.specs.Syndromes.{locator, S1, S3}
use Rattle.word_spec.proofs.Distance.{locator_lt}
use Rattle.word_spec.proofs.SyndromeLaws.{locator_entry, locator_end}
use Rattle.blocks.specs.Moves.{pick}
use Rattle.blocks.specs.SideBySide.{laid_word}
use Rattle.blocks.specs.Laying.{Laid}
use Rattle.networks_spec.specs.Networks.{network, lane, back_columns, front_columns, up64_columns, up32_columns, up16_columns}
use Rattle.networks_spec.proofs.ColumnLaws.{raise, raise_linear, column, front_columns_lem, back_columns_lem}
use Rattle.networks_spec.proofs.NetworkLaws.{low_digit, Shows, network_shows, added_shows, lin_shows}
use Rattle.gathering_spec.specs.Sums.{
  halves_lane,
  lane64,
  paired_number,
  paired_lanes,
  lanes32,
  lower_halves,
  upper_halves,
  lane16,
  bit_in,
  word_in,
  both_rows,
  joined_number,
  joined_rows,
  Gathered,
}

-- ---- the columns of the code

locator_last : locator 255 ≡ 0
locator_last = sym (locator_end 255 (omega arith))

column_parts : (k : ℕ) → k < 255 → (column k % 256 ≡ locator k) × (column k / 256 ≡ cube (locator k))
unfolding column
column_parts k l = (low, high)
  where
    e : (509 - k) % 255 ≡ 254 - k
    e = omega arith

    p : get_or powers ((509 - k) % 255) 0 ≡ locator k
    p = ap (λ i. get_or powers i 0) e ∙ sym (locator_entry k l)

    small : locator k < 256
    small = locator_lt k (omega arith)

    c : get_or cubed (get_or powers ((509 - k) % 255) 0) 0 ≡ cube (locator k)
    c = ap (λ i. get_or cubed i 0) p ∙ cube_in cubed (locator k) refl small

    low : (get_or powers ((509 - k) % 255) 0 + 256 * get_or cubed (get_or powers ((509 - k) % 255) 0) 0) % 256 ≡ locator k
    low = rw (c, p) (omega (arith, small))

    high : (get_or powers ((509 - k) % 255) 0 + 256 * get_or cubed (get_or powers ((509 - k) % 255) 0) 0) / 256 ≡ cube (locator k)
    high = rw (c, p) (omega (arith, small))

-- ---- eight blocks and their sum

regroup : {f g h : ℕ → ℕ} → Linear f → Linear g → Linear h → (a0 a1 a2 a3 a4 a5 a6 a7 : ℕ)
    → f (g (h a0 ⊕ a4) ⊕ (h a2 ⊕ a6)) ⊕ (g (h a1 ⊕ a5) ⊕ (h a3 ⊕ a7))
    ≡ (((((((0 ⊕ f (g (h a0))) ⊕ g (h a1)) ⊕ f (h a2)) ⊕ h a3) ⊕ f (g a4)) ⊕ g a5) ⊕ f a6) ⊕ a7
regroup {f} {g} {h} F G H a0 a1 a2 a3 a4 a5 a6 a7 =
    ap₂ (λ u v. u ⊕ (v ⊕ (h a3 ⊕ a7)))
    (ap (λ u. f (u ⊕ (h a2 ⊕ a6))) (G.at_sum (h a0) a4) ∙ F.at_sum (g (h a0) ⊕ g a4) (h a2 ⊕ a6) ∙ ap₂ ◌⊕◌ (F.at_sum (g (h a0)) (g a4)) (F.at_sum (h a2) a6))
    (G.at_sum (h a1) a5)
    ∙ simp sums

-- Sums over places in blocks.
pub xor_sum_blocks : (n m : ℕ) (f : ℕ → ℕ) → xor_sum (n * m) f ≡ xor_sum n (λ a. xor_sum m (λ b. f (a * m + b)))
unfolding xor_sum
xor_sum_blocks zero m f = ap (λ k. xor_sum k f) (zero-mul m)
xor_sum_blocks (suc n) m f =
    ap (λ k. xor_sum k f) (suc-mul n m) ∙ xor_sum_split (n * m) m f ∙ ap (λ u. u ⊕ xor_sum m (λ b. f (n * m + b))) (xor_sum_blocks n m f)

-- ---- the bits of a word by blocks

module _ (x y : List ℕ) (r : ℕ) where
  pub front_bit_lem : (C j : ℕ) → C < 8 → j < 16 → word_in x y r (C * 16 + j) ≡ bit_in x j C r
  unfolding word_in
  front_bit_lem C j lC lj =
      let q : (C * 16 + j) / 16 ≡ C = omega arith in
      let m : (C * 16 + j) % 16 ≡ j = omega arith in
      simp (lt-ltb (C * 16 + j) 128 (omega arith), q, m)

  pub back_bit_lem : (C j : ℕ) → C < 8 → j < 16 → word_in x y r (128 + (C * 16 + j)) ≡ bit_in y j C r
  unfolding word_in
  back_bit_lem C j lC lj =
      let q : (128 + (C * 16 + j) - 128) / 16 ≡ C = omega arith in
      let m : (128 + (C * 16 + j)) % 16 ≡ j = omega arith in
      simp (le-ltb (128 + (C * 16 + j)) 128 (omega arith), q, m)

-- ---- two numbers of n bits in one of twice as many

upper_half : (n x w : ℕ) → w < n → bit_of (n + n) x w ≡ bit_of n (x / 2 ^ n) w
unfolding bit_of
upper_half n x w l =
    let e : n + n - 1 - w ≡ n + (n - 1 - w) = omega arith in
    ap (λ k. x / 2 ^ k % 2) e ∙ ap (λ u. u % 2) (sym (shr-shr x n (n - 1 - w)))

lower_half : (n x w : ℕ) → w < n → bit_of (n + n) x (n + w) ≡ bit_of n (x % 2 ^ n) w
unfolding bit_of
lower_half n x w l =
    let e : n + n - 1 - (n + w) ≡ n - 1 - w = omega arith in
    ap (λ k. x / 2 ^ k % 2) e ∙ low_digit n x (n - 1 - w) (omega arith)

pub upper_bit : (n a b w : ℕ) → w < n → bit_of (n + n) (a * 2 ^ n + b % 2 ^ n) w ≡ bit_of n a w
upper_bit n a b w l = upper_half n (a * 2 ^ n + b % 2 ^ n) w l ∙ ap (λ u. bit_of n u w) (high a n (mod-lt b (pow_pos n)))

pub lower_bit : (n a b w : ℕ) → w < n → bit_of (n + n) (a * 2 ^ n + b % 2 ^ n) (n + w) ≡ bit_of n b w
unfolding bit_of
lower_bit n a b w l =
    lower_half n (a * 2 ^ n + b % 2 ^ n) w l ∙ ap (λ u. bit_of n u w) (low a n (mod-lt b (pow_pos n)))
    ∙ sym (low_digit n b (n - 1 - w) (omega arith))

-- ---- what the levels show of word r

half_sum : List ℕ → List ℕ → ℕ → ℕ → ℕ
half_sum columns x r C = xor_sum 16 (λ j. bit_in x j C r * get_or columns j 0)

lane_bits : (x : List ℕ) (C r j : ℕ) → j < 16 → bit_of 16 (get_or (lane x C) j 0) r ≡ bit_in x j C r
unfolding lane bit_in
lane_bits x C r j l = ap (λ u. bit_of 16 u r) (get_d_tabulate 16 (λ i. get_or x (8 * i + C) 0) j 0 l)

laid_shows : {n m : ℕ} {f : ℕ → List ℕ} {z : List ℕ} → Laid f m z → (C w v : ℕ) → C < m → Shows n (f C) w v → Shows n (lane z C) w v
unfolding lane laid_word
laid_shows {n} {m} {f} {z} h C w v l p =
    record { bits = λ i li. ap (λ u. bit_of n u w) (get_d_tabulate 16 (λ j. get_or z (8 * j + C) 0) i 0 li ∙ laid_at_lem i li) ∙ p.bits i li }
  where
    laid_at_lem : (i : ℕ) → i < 16 → get_or z (8 * i + C) 0 ≡ get_or (f C) i 0
    laid_at_lem i li =
        let m : (8 * i + C) % 8 ≡ C = omega (arith, h.upto) in
        let d : (8 * i + C) / 8 ≡ i = omega (arith, h.upto) in
        h.at (8 * i + C) (omega (arith, h.upto)) (omega (arith, m)) ∙ rw (m, d) refl

-- Block by block, for word r of a row.
module _ (x y z : List ℕ) (l0 : Laid (halves_lane x y) 8 z) (r : ℕ) where
  v0 : ℕ → ℕ
  v0 C = half_sum front_columns x r C ⊕ half_sum back_columns y r C

  shows0 : (C : ℕ) → C < 8 → Shows 16 (lane z C) r (v0 C)
  unfolding v0 halves_lane half_sum
  shows0 C l =
      laid_shows l0 C r (v0 C) l
      (added_shows 16 (network front_columns (lane x C)) (network back_columns (lane y C)) r (half_sum front_columns x r C) (half_sum back_columns y r C)
      (network_shows 16 front_columns (lane x C) r (λ j. bit_in x j C r) (λ j lj. lane_bits x C r j lj))
      (network_shows 16 back_columns (lane y C) r (λ j. bit_in y j C r) (λ j lj. lane_bits y C r j lj)))

  half_raised : (columns u : List ℕ) (C : ℕ) → raise C (half_sum columns u r C) ≡ xor_sum 16 (λ j. bit_in u j C r * raise C (get_or columns j 0))
  unfolding half_sum bit_in
  half_raised columns u C =
      sum_through (raise_linear C) 16 (λ j. bit_in u j C r * get_or columns j 0)
      ∙ xor_sum_ext 16 (λ j. raise C (bit_in u j C r * get_or columns j 0)) (λ j. bit_in u j C r * raise C (get_or columns j 0))
      (λ j l. bit_through (raise_linear C) (bit_in u j C r) (get_or columns j 0) (bit_of_lt 16 (get_or u (8 * j + C) 0) r))

  whole : xor_sum 8 (λ C. raise C (v0 C)) ≡ xor_sum 256 (λ k. word_in x y r k * column k)
  unfolding v0
  whole =
      xor_sum_ext 8 (λ C. raise C (v0 C)) (λ C. raise C (half_sum front_columns x r C) ⊕ raise C (half_sum back_columns y r C))
      (λ C l. (raise_linear C).at_sum (half_sum front_columns x r C) (half_sum back_columns y r C))
      ∙ xor_sum_⊕ 8 (λ C. raise C (half_sum front_columns x r C)) (λ C. raise C (half_sum back_columns y r C))
      ∙ ap₂ ◌⊕◌
      (xor_sum_ext 8 (λ C. raise C (half_sum front_columns x r C)) (λ C. xor_sum 16 (λ j. word_in x y r (C * 16 + j) * column (C * 16 + j)))
      (λ C l. half_raised front_columns x C
      ∙ xor_sum_ext 16 (λ j. bit_in x j C r * raise C (get_or front_columns j 0)) (λ j. word_in x y r (C * 16 + j) * column (C * 16 + j))
      (λ j lj. ap₂ ◌*◌ (sym (front_bit_lem x y r C j l lj)) (front_columns_lem C j l lj)))
      ∙ sym (xor_sum_blocks 8 16 (λ k. word_in x y r k * column k)))
      (xor_sum_ext 8 (λ C. raise C (half_sum back_columns y r C)) (λ C. xor_sum 16 (λ j. word_in x y r (128 + (C * 16 + j)) * column (128 + (C * 16 + j))))
      (λ C l. half_raised back_columns y C
      ∙ xor_sum_ext 16 (λ j. bit_in y j C r * raise C (get_or back_columns j 0)) (λ j. word_in x y r (128 + (C * 16 + j)) * column (128 + (C * 16 + j)))
      (λ j lj. ap₂ ◌*◌ (sym (back_bit_lem x y r C j l lj)) (back_columns_lem C j l lj)))
      ∙ sym (xor_sum_blocks 8 16 (λ k. word_in x y r (128 + k) * column (128 + k))))
      ∙ sym (xor_sum_split 128 128 (λ k. word_in x y r k * column k))

-- Word w in two lanes that are put together, and in two that are taken apart.
module _ (z : List ℕ) (w v : ℕ) (l : w < 32) where
  paired_upper : (C : ℕ) → Shows 32 (lane z (C + 1)) w v → Shows 64 (paired_lanes z C) w v
  unfolding lane paired_lanes paired_number
  paired_upper C p =
      record {
        bits = λ i li.
            let e : 8 * i + (C + 1) ≡ 8 * i + C + 1 = omega arith in
            ap (λ u. bit_of 64 u w) (get_d_tabulate 16 (paired_number z C) i 0 li)
            ∙ upper_bit 32 (get_or z (8 * i + C + 1) 0) (get_or z (8 * i + C) 0) w l
            ∙ sym (ap (λ u. bit_of 32 u w) (get_d_tabulate 16 (λ i. get_or z (8 * i + (C + 1)) 0) i 0 li ∙ ap (λ n. get_or z n 0) e))
            ∙ p.bits i li;
      }

  paired_lower : (C : ℕ) → Shows 32 (lane z C) w v → Shows 64 (paired_lanes z C) (32 + w) v
  unfolding lane paired_lanes paired_number
  paired_lower C p =
      record {
        bits = λ i li. ap (λ u. bit_of 64 u (32 + w)) (get_d_tabulate 16 (paired_number z C) i 0 li)
            ∙ lower_bit 32 (get_or z (8 * i + C + 1) 0) (get_or z (8 * i + C) 0) w l
            ∙ sym (ap (λ u. bit_of 32 u w) (get_d_tabulate 16 (λ i. get_or z (8 * i + C) 0) i 0 li)) ∙ p.bits i li;
      }

  halves_upper : Shows 64 z w v → Shows 32 (upper_halves z) w v
  unfolding upper_halves
  halves_upper p =
      record {
        bits = λ i li. ap (λ u. bit_of 32 u w) (get_d_tabulate 16 (λ i. get_or z i 0 / 4294967296) i 0 li)
            ∙ sym (upper_half 32 (get_or z i 0) w l) ∙ p.bits i li;
      }

  halves_lower : Shows 64 z (32 + w) v → Shows 32 (lower_halves z) w v
  unfolding lower_halves
  halves_lower p =
      record {
        bits = λ i li. ap (λ u. bit_of 32 u w) (get_d_tabulate 16 (λ i. get_or z i 0 % 4294967296) i 0 li)
            ∙ sym (lower_half 32 (get_or z i 0) w l) ∙ p.bits i li;
      }

-- Level by level, for word w of both rows.
module _ (z0 z1 : List ℕ) (l1 : Laid (lane64 z0) 4 z1) (w : ℕ) (lw : w < 32) (v : ℕ → ℕ)
    (s0 : (C : ℕ) → C < 8 → Shows 32 (lane z0 C) w (v C)) where
  v1 : ℕ → ℕ
  v1 C = lin up64_columns (v C) ⊕ v (C + 4)

  shows1 : (C : ℕ) → C < 4 → Shows 32 (lane z1 C) w (v1 C)
  unfolding v1 lane64 up64_columns
  shows1 C l =
      laid_shows l1 C w (v1 C) l
      (added_shows 32 (network up64_columns (lane z0 C)) (lane z0 (C + 4)) w (lin up64_columns (v C)) (v (C + 4))
      (lin_shows 32 up64_columns (lane z0 C) w (v C) refl (s0 C (omega arith))) (s0 (C + 4) (omega arith)))

  v2 : ℕ → ℕ
  v2 C = lin up32_columns (v1 C) ⊕ v1 (C + 2)

  shows2 : (k a b : ℕ) → Shows 64 (paired_lanes z1 0) k a → Shows 64 (paired_lanes z1 2) k b → Shows 64 (lanes32 z1) k (lin up32_columns a ⊕ b)
  unfolding lanes32 up32_columns
  shows2 k a b p q =
      added_shows 64 (network up32_columns (paired_lanes z1 0)) (paired_lanes z1 2) k (lin up32_columns a) b
      (lin_shows 64 up32_columns (paired_lanes z1 0) k a refl p) q

  upper2 : Shows 32 (upper_halves (lanes32 z1)) w (v2 1)
  unfolding v2
  upper2 =
      halves_upper (lanes32 z1) w (v2 1) lw
      (shows2 w (v1 1) (v1 3)
      (paired_upper z1 w (v1 1) lw 0 (shows1 1 (omega arith))) (paired_upper z1 w (v1 3) lw 2 (shows1 3 (omega arith))))

  lower2 : Shows 32 (lower_halves (lanes32 z1)) w (v2 0)
  unfolding v2
  lower2 =
      halves_lower (lanes32 z1) w (v2 0) lw
      (shows2 (32 + w) (v1 0) (v1 2)
      (paired_lower z1 w (v1 0) lw 0 (shows1 0 (omega arith))) (paired_lower z1 w (v1 2) lw 2 (shows1 2 (omega arith))))

  total : ℕ
  total = lin up16_columns (v2 0) ⊕ v2 1

  shows3 : Shows 32 (lane16 (lanes32 z1)) w total
  unfolding total lane16 up16_columns
  shows3 =
      added_shows 32 (network up16_columns (lower_halves (lanes32 z1))) (upper_halves (lanes32 z1)) w (lin up16_columns (v2 0)) (v2 1)
      (lin_shows 32 up16_columns (lower_halves (lanes32 z1)) w (v2 0) refl lower2) upper2

  raised : total ≡ xor_sum 8 (λ C. raise C (v C))
  unfolding total v2 v1 xor_sum raise pick
  raised = regroup (lin_linear up16_columns) (lin_linear up32_columns) (lin_linear up64_columns) (v 0) (v 1) (v 2) (v 3) (v 4) (v 5) (v 6) (v 7)

-- ---- S1 and S3 of it

-- Bit 255 alone is bit row 15 of block 7.
apart : (k : ℕ) → k < 255 → 8 * (k % 16) + (k - 128) / 16 ≢ 127
apart k l e =
    let q : (k - 128) / 16 < 8 = omega arith in
    let m : k % 16 ≡ 15 = omega arith in
    let n : (k - 128) / 16 ≡ 7 = omega arith in
    let h : 240 ≤ k = omega arith in
    let d : k / 16 ≡ 15 = omega arith in
    omega (arith, div-add-mod' k 16)

zeroed : (y : List ℕ) (n : ℕ) → get_or (set y n 0) n 0 ≡ 0
zeroed [] n = refl
zeroed (a ∷ as') zero = refl
zeroed (a ∷ as') (suc n) = zeroed as' n

-- Without bit 255, which has no part in them.
module _ (x y : List ℕ) (r : ℕ) where
  last_none : word_in x (set y 127 0) r 255 ≡ 0
  unfolding word_in bit_in bit_of
  last_none = ap (λ u. u / 2 ^ (16 - 1 - r) % 2) (zeroed y 127) ∙ let z : 0 / 2 ^ (16 - 1 - r) ≡ 0 = omega (arith, shr_le 0 (16 - 1 - r)) in ap (λ u. u % 2) z

  other_same : (k : ℕ) → k < 255 → word_in x (set y 127 0) r k ≡ word_in x y r k
  unfolding word_in bit_in
  other_same k l = go (dec_lt k 128)
    where
      go : Dec (k < 128) → cond (ltb k 128) (bit_of 16 (get_or x (8 * (k % 16) + k / 16) 0) r) (bit_of 16 (get_or (set y 127 0) (8 * (k % 16) + (k - 128) / 16) 0) r)
          ≡ cond (ltb k 128) (bit_of 16 (get_or x (8 * (k % 16) + k / 16) 0) r) (bit_of 16 (get_or y (8 * (k % 16) + (k - 128) / 16) 0) r)
      go (yes p) = simp (lt-ltb k 128 p)
      go (no p) =
          ap (λ u. cond (ltb k 128) (bit_of 16 (get_or x (8 * (k % 16) + k / 16) 0) r) (bit_of 16 u r)) (get_or-set_other y 127 (8 * (k % 16) + (k - 128) / 16) 0 0 (apart k l))

  word_bit : (k : ℕ) → word_in x (set y 127 0) r k < 2
  unfolding word_in bit_in
  word_bit k = go (ltb k 128)
    where
      go : (b : Bool) → cond b (bit_of 16 (get_or x (8 * (k % 16) + k / 16) 0) r) (bit_of 16 (get_or (set y 127 0) (8 * (k % 16) + (k - 128) / 16) 0) r) < 2
      go true = bit_of_lt 16 (get_or x (8 * (k % 16) + k / 16) 0) r
      go false = bit_of_lt 16 (get_or (set y 127 0) (8 * (k % 16) + (k - 128) / 16) 0) r

  part : (f : ℕ → ℕ) → Linear f → (q : ℕ → ℕ) → ((k : ℕ) → k < 255 → f (column k) ≡ q k) → q 255 ≡ 0
      → f (xor_sum 256 (λ k. word_in x (set y 127 0) r k * column k)) ≡ xor_sum 256 (λ k. word_in x y r k * q k)
  part f F q e z =
      sum_through F 256 (λ k. word_in x (set y 127 0) r k * column k)
      ∙ xor_sum_ext 256 (λ k. f (word_in x (set y 127 0) r k * column k)) (λ k. word_in x y r k * q k)
      (λ k l. bit_through F (word_in x (set y 127 0) r k) (column k) (word_bit k) ∙ go k l (dec_lt k 255))
    where
      go : (k : ℕ) → k < 256 → Dec (k < 255) → word_in x (set y 127 0) r k * f (column k) ≡ word_in x y r k * q k
      go k l (yes p) = ap₂ ◌*◌ (other_same k p) (e k p)
      go k l (no p) =
          let h : k ≡ 255 = omega arith in
          rw h (ap (λ u. u * f (column 255)) last_none ∙ zero-mul (f (column 255)) ∙ sym (ap (λ u. word_in x y r 255 * u) z ∙ mul-zero (word_in x y r 255)))

low_linear : Linear (λ v. v % 256)
unfolding ◌⊕◌
low_linear = additive (λ v. v % 256) (λ a b. xor_mod a b 8)

high_linear : Linear (λ v. v / 256)
high_linear = additive (λ v. v / 256) (λ a b. ⊕_shr a b 8)

-- ---- two rows in one

pub lower_word : (a b w : ℕ) → 16 ≤ w → w < 32 → bit_of 32 (a * 65536 + b % 65536) w ≡ bit_of 16 b (w - 16)
lower_word a b w l lw = let e : w ≡ 16 + (w - 16) = omega arith in ap (bit_of 32 (a * 65536 + b % 65536)) e ∙ lower_bit 16 a b (w - 16) (omega arith)

module _ (a b z : List ℕ) (e : z ≡ joined_rows a b) (C : ℕ) (lC : C < 8) where
  joined_lane : (i : ℕ) → i < 16 → get_or (lane z C) i 0 ≡ get_or a (8 * i + C) 0 * 65536 + get_or b (8 * i + C) 0 % 65536
  unfolding lane joined_rows joined_number
  joined_lane i l =
      get_d_tabulate 16 (λ i. get_or z (8 * i + C) 0) i 0 l ∙ ap (λ t. get_or t (8 * i + C) 0) e ∙ get_d_tabulate 128 (joined_number a b) (8 * i + C) 0 (omega arith)

  shows_upper : (w v : ℕ) → w < 16 → Shows 16 (lane a C) w v → Shows 32 (lane z C) w v
  unfolding lane
  shows_upper w v lw p =
      record {
        bits = λ i l. ap (λ u. bit_of 32 u w) (joined_lane i l) ∙ upper_bit 16 (get_or a (8 * i + C) 0) (get_or b (8 * i + C) 0) w lw
            ∙ sym (ap (λ u. bit_of 16 u w) (get_d_tabulate 16 (λ i. get_or a (8 * i + C) 0) i 0 l)) ∙ p.bits i l;
      }

  shows_lower : (w v : ℕ) → 16 ≤ w → w < 32 → Shows 16 (lane b C) (w - 16) v → Shows 32 (lane z C) w v
  unfolding lane
  shows_lower w v l lw p =
      record {
        bits = λ i li. ap (λ u. bit_of 32 u w) (joined_lane i li) ∙ lower_word (get_or a (8 * i + C) 0) (get_or b (8 * i + C) 0) w l lw
            ∙ sym (ap (λ u. bit_of 16 u (w - 16)) (get_d_tabulate 16 (λ i. get_or b (8 * i + C) 0) i 0 li)) ∙ p.bits i li;
      }

-- ---- what the levels leave is gathered of the words of both rows

module _ (x0 y0 x1 y1 a b z0 z1 s : List ℕ) (la : Laid (halves_lane x0 (set y0 127 0)) 8 a) (lb : Laid (halves_lane x1 (set y1 127 0)) 8 b)
    (ez : z0 ≡ joined_rows a b) (l1 : Laid (lane64 z0) 4 z1) (es : s ≡ lane16 (lanes32 z1)) where
  -- S1 and S3 of word w, if it is word r of the row x, y.
  gathered_word : (w : ℕ) → w < 32 → (x y c : List ℕ) (r : ℕ) (l0 : Laid (halves_lane x (set y 127 0)) 8 c)
      → ((C : ℕ) → C < 8 → Shows 32 (lane z0 C) w (v0 x (set y 127 0) c l0 r C))
      → ((i : ℕ) → i < 8 → bit_of 32 (get_or s i 0) w ≡ S1 (word_in x y r) / 2 ^ i % 2) × ((i : ℕ) → i < 8 → bit_of 32 (get_or s (8 + i) 0) w ≡ S3 (word_in x y r) / 2 ^ i % 2)
  unfolding S1 S3
  gathered_word w lw x y c r l0 shows = (
    λ i li. ap (λ t. bit_of 32 (get_or t i 0) w) es ∙ (shows3 z0 z1 l1 w lw v shows).bits i (omega arith) ∙ low_digit 8 sum i li
        ∙ ap (λ u. u / 2 ^ i % 2) (ap (λ u. u % 256) is ∙ part x y r (λ v. v % 256) low_linear locator (λ k l. (column_parts k l).0) locator_last),
    λ i li. ap (λ t. bit_of 32 (get_or t (8 + i) 0) w) es ∙ (shows3 z0 z1 l1 w lw v shows).bits (8 + i) (omega arith)
        ∙ ap (λ u. u % 2) (sym (shr-shr sum 8 i))
        ∙ ap (λ u. u / 2 ^ i % 2) (ap (λ u. u / 256) is ∙ part x y r (λ v. v / 256) high_linear (λ k. cube (locator k)) (λ k l. (column_parts k l).1) (ap cube locator_last ∙ cube_zero)),
  )
    where
      v : ℕ → ℕ
      v = v0 x (set y 127 0) c l0 r

      sum : ℕ
      sum = total z0 z1 l1 w lw v shows

      is : sum ≡ xor_sum 256 (λ k. word_in x (set y 127 0) r k * column k)
      is = raised z0 z1 l1 w lw v shows ∙ whole x (set y 127 0) c l0 r

  upper : (w : ℕ) → w < 16 → (C : ℕ) → C < 8 → Shows 32 (lane z0 C) w (v0 x0 (set y0 127 0) a la w C)
  upper w l C lC = shows_upper a b z0 ez C lC w (v0 x0 (set y0 127 0) a la w C) l (shows0 x0 (set y0 127 0) a la w C lC)

  lower : (w : ℕ) → 16 ≤ w → w < 32 → (C : ℕ) → C < 8 → Shows 32 (lane z0 C) w (v0 x1 (set y1 127 0) b lb (w - 16) C)
  lower w l m C lC = shows_lower a b z0 ez C lC w (v0 x1 (set y1 127 0) b lb (w - 16) C) l m (shows0 x1 (set y1 127 0) b lb (w - 16) C lC)

  pub gathered : Gathered (both_rows (word_in x0 y0) (word_in x1 y1)) s
  unfolding both_rows
  gathered = record { first = λ w i lw li. first w lw i li (dec_lt w 16); third = λ w i lw li. third w lw i li (dec_lt w 16) }
    where
      first : (w : ℕ) → w < 32 → (i : ℕ) → i < 8 → Dec (w < 16)
          → bit_of 32 (get_or s i 0) w ≡ S1 (cond (ltb w 16) (word_in x0 y0 w) (word_in x1 y1 (w - 16))) / 2 ^ i % 2
      first w lw i li (yes l) = simp (lt-ltb w 16 l) ((gathered_word w lw x0 y0 a w la (upper w l)).0 i li)
      first w lw i li (no l) = simp (le-ltb w 16 (omega arith)) ((gathered_word w lw x1 y1 b (w - 16) lb (lower w (omega arith) lw)).0 i li)

      third : (w : ℕ) → w < 32 → (i : ℕ) → i < 8 → Dec (w < 16)
          → bit_of 32 (get_or s (8 + i) 0) w ≡ S3 (cond (ltb w 16) (word_in x0 y0 w) (word_in x1 y1 (w - 16))) / 2 ^ i % 2
      third w lw i li (yes l) = simp (lt-ltb w 16 l) ((gathered_word w lw x0 y0 a w la (upper w l)).1 i li)
      third w lw i li (no l) = simp (le-ltb w 16 (omega arith)) ((gathered_word w lw x1 y1 b (w - 16) lb (lower w (omega arith) lw)).1 i li)
