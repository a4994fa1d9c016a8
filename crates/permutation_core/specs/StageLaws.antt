-- Laws of the stages: what code puts in each bit row, and where the bits go in four stages, computed at the 256 places of a block.
-- Assumes nothing.
use Rattle.std.specs.Prelude.{◌≡◌, refl, Bool, List, ℕ, zero, suc, ◌+◌, ◌-◌, ◌*◌, ◌/◌, ◌%◌, ◌^◌, ◌<◌, ◌≤◌, T, ltb, leb, eqb, length, map}
use Rattle.std.proofs.Math.Path.{sym, ap}
use Rattle.std.proofs.Common.{ap₂, ◌∙◌, one-mul, zero-mul, mul_assoc, mod-lt, ltb→lt, leb→le, eqb→eq, shr-shr, pow-add, pow_pos}
use Rattle.std.proofs.lemmas.List.{map-id, get_or-map}
use native.Mathlib.Omega.{arith}
use Rattle.std.proofs.Math.Decide.{dec_lt}
use Rattle.std.specs.Int.Bits.{bit_and, bit_xor, and_zero_r, and_le_r, xor_zero_r, shifted_even}
use Rattle.std.proofs.lemmas.Nat.{xor_comm, xor_lt, shl-shr}
use Rattle.std.proofs.Math.ListN.{get_or}
use Rattle.std.proofs.Math.Pow.{field, mod-mod-pow}
use Rattle.bits.specs.Bits.{bit_of, from_bits}
use Rattle.bits.proofs.BitLaws.{bit_of_lt, from_bits_ext, from_bits_bit_of}
use Rattle.bits.specs.Tests.{every, each, both, both_left, both_right}
use Rattle.bits.specs.Xor.{◌⊕◌}
use Rattle.blocks.specs.Block.{bit_at, row_word, block}
use Rattle.blocks.specs.Moves.{pick, chosen, moved_word, moved, transposed}
use Rattle.blocks.specs.MoveLaws.{Moves, moves_same, moves_then, block_moved, bit_of_xor, bit_of_and, choose_bit}
use Rattle.permutation_core.specs.Stages.{own, other, rows_stage, columns_column, columns_stage, crossed_first, crossed_second, cross_row, cross_column, cross_word, cross_stage, eight_transposed, two_transposed}
use Rattle.blocks.specs.Exchanges.{rows_exchanged, columns_exchanged}

-- ---- numbers shifted, over their width w

-- What is shifted to the right comes from the left, and the other way.
pub shr_bit : (w x n c : ℕ) → n ≤ c → c < w → bit_of w (x / 2 ^ n) c ≡ bit_of w x (c - n)
unfolding bit_of
shr_bit w x n c h l =
    let e : n + (w - 1 - c) ≡ w - 1 - (c - n) = omega arith in
    ap (λ u. u % 2) (shr-shr x n (w - 1 - c)) ∙ ap (λ k. x / 2 ^ k % 2) e

pub cut_bit : (w x c : ℕ) → c < w → bit_of w (x % 2 ^ w) c ≡ bit_of w x c
unfolding bit_of
cut_bit w x c l =
    let e : w ≡ (c + 1) + (w - 1 - c) = omega arith in
    ap (λ k. x % 2 ^ k / 2 ^ (w - 1 - c) % 2) e ∙ ap (λ u. u % 2) (field x (c + 1) (w - 1 - c)) ∙ mod-mod-pow (x / 2 ^ (w - 1 - c)) c 1

shl_bit : (w x n c : ℕ) → c + n < w → bit_of w (x * 2 ^ n % 2 ^ w) c ≡ bit_of w x (c + n)
unfolding bit_of
shl_bit w x n c h =
    let e : w - 1 - c ≡ n + (w - 1 - (c + n)) = omega arith in
    cut_bit w (x * 2 ^ n) c (omega arith) ∙ ap (λ k. x * 2 ^ n / 2 ^ k % 2) e
    ∙ ap (λ u. u % 2) (sym (shr-shr (x * 2 ^ n) n (w - 1 - (c + n))) ∙ ap (λ u. u / 2 ^ (w - 1 - (c + n))) (shl-shr x n))

-- Behind what was shifted there are zeros.
even : (x k j : ℕ) → x * 2 ^ (suc j + k) / 2 ^ k % 2 ≡ 0
even x k j =
    ap (λ u. u / 2 ^ k % 2) (ap (λ u. x * u) (pow-add 2 (suc j) k) ∙ sym (mul_assoc x (2 ^ suc j) (2 ^ k)))
    ∙ ap (λ u. u % 2) (shl-shr (x * 2 ^ suc j) k) ∙ shifted_even x j

shl_zero : (w x n c : ℕ) → c < w → w ≤ c + n → bit_of w (x * 2 ^ n % 2 ^ w) c ≡ 0
unfolding bit_of
shl_zero w x n c l h =
    let e : n ≡ suc (n - (w - c)) + (w - 1 - c) = omega arith in
    cut_bit w (x * 2 ^ n) c l ∙ ap (λ k. x * 2 ^ k / 2 ^ (w - 1 - c) % 2) e ∙ even x (w - 1 - c) (n - (w - c))

-- ---- the columns of a mask

-- Where the mask is set a shift to the right has somewhere to come from, and where it is not a shift to the left; of two columns n apart it
-- has one.
pub record Mask (w m n : ℕ) : Type 0 where
  pub right : (c : ℕ) → c < w → bit_of w m c ≡ 1 → n ≤ c
  pub left : (c : ℕ) → c < w → bit_of w m c ≡ 0 → c + n < w
  pub across : (c : ℕ) → c + n < w → bit_of w m (c + n) ≡ 1 - bit_of w m c

abbrev ends : ℕ → ℕ → ℕ → ℕ → Bool
ends w m n c = both (leb (bit_of w m c * n) c) (ltb (c + n) (w + bit_of w m c * w))

abbrev masks : ℕ → ℕ → ℕ → Bool
masks w m n = both (every w (ends w m n)) (every (w - n) (λ c. eqb (bit_of w m (c + n)) (1 - bit_of w m c)))

mask_of : (w m n : ℕ) → T (masks w m n) → Mask w m n
mask_of w m n t =
    record {
      right = λ c l e.
          let h = leb→le (bit_of w m c * n) c (both_left (leb (bit_of w m c * n) c) (ltb (c + n) (w + bit_of w m c * w)) (holds c l)) in
          rw (e, one-mul n) at h;
      left = λ c l e.
          let h = ltb→lt (c + n) (w + bit_of w m c * w) (both_right (leb (bit_of w m c * n) c) (ltb (c + n) (w + bit_of w m c * w)) (holds c l)) in
          omega (arith, rw (e, zero-mul w) at h);
      across = λ c l.
          eqb→eq (bit_of w m (c + n)) (1 - bit_of w m c) (each (w - n) (λ c. eqb (bit_of w m (c + n)) (1 - bit_of w m c)) (both_right (every w (ends w m n)) (every (w - n) (λ c. eqb (bit_of w m (c + n)) (1 - bit_of w m c))) t) c (omega arith));
    }
  where
    holds : (c : ℕ) → c < w → T (ends w m n c)
    holds = each w (ends w m n) (both_left (every w (ends w m n)) (every (w - n) (λ c. eqb (bit_of w m (c + n)) (1 - bit_of w m c))) t)

pub mask8 : Mask 16 255 8
unfolding bit_of
mask8 = mask_of 16 255 8 tt

pub mask4 : Mask 16 3855 4
unfolding bit_of
mask4 = mask_of 16 3855 4 tt

pub mask2 : Mask 16 13107 2
unfolding bit_of
mask2 = mask_of 16 13107 2 tt

pub mask1 : Mask 16 21845 1
unfolding bit_of
mask1 = mask_of 16 21845 1 tt

pub eight4 : Mask 64 1085102592571150095 4
unfolding bit_of
eight4 = mask_of 64 1085102592571150095 4 tt

pub eight2 : Mask 64 3689348814741910323 2
unfolding bit_of
eight2 = mask_of 64 3689348814741910323 2 tt

pub eight1 : Mask 64 6148914691236517205 1
unfolding bit_of
eight1 = mask_of 64 6148914691236517205 1 tt

pub two8 : Mask 32 16711935 8
unfolding bit_of
two8 = mask_of 32 16711935 8 tt

pub two4 : Mask 32 252645135 4
unfolding bit_of
two4 = mask_of 32 252645135 4 tt

pub two2 : Mask 32 858993459 2
unfolding bit_of
two2 = mask_of 32 858993459 2 tt

pub two1 : Mask 32 1431655765 1
unfolding bit_of
two1 = mask_of 32 1431655765 1 tt

-- By the digit of a mask.
by_mask : {A : Type 0} (w m c : ℕ) → (bit_of w m c ≡ 1 → A) → (bit_of w m c ≡ 0 → A) → A
by_mask {A} w m c yes-is no-is = go (bit_of w m c) refl (bit_of_lt w m c)
  where
    go : (t : ℕ) → bit_of w m c ≡ t → t < 2 → A
    go zero e l = no-is e
    go (suc zero) e l = yes-is e
    go (suc (suc t)) e l = absurd (omega arith)

-- ---- two numbers whose columns change places, as code does it: those of m of the first, and those n before them of the second

module _ (w m n x y : ℕ) (k : Mask w m n) where
  abbrev differing : ℕ
  differing = bit_and (bit_xor x (y / 2 ^ n)) m

  differing_bit : (c : ℕ) → bit_of w differing c ≡ bit_and (bit_xor (bit_of w x c) (bit_of w (y / 2 ^ n) c)) (bit_of w m c)
  differing_bit c = bit_of_and w (bit_xor x (y / 2 ^ n)) m c ∙ ap (λ u. bit_and u (bit_of w m c)) (bit_of_xor w x (y / 2 ^ n) c)

  -- A digit with what differs added: the other one where the mask is set.
  other_one : (u v : ℕ) → u < 2 → v < 2 → bit_xor v (bit_and (bit_xor u v) 1) ≡ u
  unfolding pick
  other_one u v lu lv = choose_bit 1 u v (omega arith) lu lv

  first_in : (c : ℕ) → c < w → bit_of w m c ≡ 1 → bit_of w (bit_xor x differing) c ≡ bit_of w y (c - n)
  first_in c l e =
      bit_of_xor w x differing c ∙ ap (bit_xor (bit_of w x c)) (differing_bit c ∙ ap₂ bit_and (xor_comm (bit_of w x c) (bit_of w (y / 2 ^ n) c)) e)
      ∙ other_one (bit_of w (y / 2 ^ n) c) (bit_of w x c) (bit_of_lt w (y / 2 ^ n) c) (bit_of_lt w x c) ∙ shr_bit w y n c (k.right c l e) l

  first_out : (c : ℕ) → bit_of w m c ≡ 0 → bit_of w (bit_xor x differing) c ≡ bit_of w x c
  first_out c e =
      bit_of_xor w x differing c
      ∙ ap (bit_xor (bit_of w x c)) (differing_bit c ∙ ap (bit_and (bit_xor (bit_of w x c) (bit_of w (y / 2 ^ n) c))) e ∙ and_zero_r (bit_xor (bit_of w x c) (bit_of w (y / 2 ^ n) c)))
      ∙ xor_zero_r (bit_of w x c)

  second_out : (c : ℕ) → c < w → bit_of w m c ≡ 0 → bit_of w (bit_xor y (differing * 2 ^ n % 2 ^ w)) c ≡ bit_of w x (c + n)
  second_out c l e =
      let h = k.left c l e in
      let back : c + n - n ≡ c = omega arith in
      let own : bit_of w (y / 2 ^ n) (c + n) ≡ bit_of w y c = shr_bit w y n (c + n) (omega arith) h ∙ ap (bit_of w y) back in
      bit_of_xor w y (differing * 2 ^ n % 2 ^ w) c
      ∙ ap (bit_xor (bit_of w y c))
      (shl_bit w differing n c h ∙ differing_bit (c + n) ∙ ap₂ (λ u v. bit_and (bit_xor (bit_of w x (c + n)) u) v) own (k.across c h ∙ ap (λ u. 1 - u) e))
      ∙ other_one (bit_of w x (c + n)) (bit_of w y c) (bit_of_lt w x (c + n)) (bit_of_lt w y c)

  second_in : (c : ℕ) → c < w → bit_of w m c ≡ 1 → bit_of w (bit_xor y (differing * 2 ^ n % 2 ^ w)) c ≡ bit_of w y c
  second_in c l e =
      bit_of_xor w y (differing * 2 ^ n % 2 ^ w) c ∙ ap (bit_xor (bit_of w y c)) (go (dec_lt (c + n) w)) ∙ xor_zero_r (bit_of w y c)
    where
      go : Dec (c + n < w) → bit_of w (differing * 2 ^ n % 2 ^ w) c ≡ 0
      go (yes h) =
          shl_bit w differing n c h ∙ differing_bit (c + n)
          ∙ ap (bit_and (bit_xor (bit_of w x (c + n)) (bit_of w (y / 2 ^ n) (c + n)))) (k.across c h ∙ ap (λ u. 1 - u) e)
          ∙ and_zero_r (bit_xor (bit_of w x (c + n)) (bit_of w (y / 2 ^ n) (c + n)))
      go (no h) = shl_zero w differing n c l (omega arith)

  -- As code has them: where the numbers that it makes have w digits,
  crossed_first_below : bit_xor x differing < 2 ^ w → bit_xor x differing ≡ crossed_first w m n x y
  unfolding crossed_first pick
  crossed_first_below l =
      sym (from_bits_bit_of w (bit_xor x differing) l)
      ∙ from_bits_ext w (bit_of w (bit_xor x differing)) (λ c. pick (bit_of w m c) (bit_of w y (c - n)) (bit_of w x c))
      (λ c l. ap (λ u. u % 2) (by_mask w m c (λ e. rw e (first_in c l e)) (λ e. rw e (first_out c e))))

  crossed_second_below : bit_xor y (differing * 2 ^ n % 2 ^ w) < 2 ^ w → bit_xor y (differing * 2 ^ n % 2 ^ w) ≡ crossed_second w m n x y
  unfolding crossed_second pick
  crossed_second_below l =
      sym (from_bits_bit_of w (bit_xor y (differing * 2 ^ n % 2 ^ w)) l)
      ∙ from_bits_ext w (bit_of w (bit_xor y (differing * 2 ^ n % 2 ^ w))) (λ c. pick (bit_of w m c) (bit_of w y c) (bit_of w x (c + n)))
      (λ c l. ap (λ u. u % 2) (by_mask w m c (λ e. rw e (second_in c l e)) (λ e. rw e (second_out c l e))))

  -- and where the numbers that change columns have.
  pub crossed_first_lem : x < 2 ^ w → m < 2 ^ w → bit_xor x differing ≡ crossed_first w m n x y
  crossed_first_lem lx lm = let h = and_le_r (bit_xor x (y / 2 ^ n)) m in crossed_first_below (xor_lt w x differing lx (omega arith))

  pub crossed_second_lem : y < 2 ^ w → bit_xor y (differing * 2 ^ n % 2 ^ w) ≡ crossed_second w m n x y
  crossed_second_lem ly = crossed_second_below (xor_lt w y (differing * 2 ^ n % 2 ^ w) ly (mod-lt (differing * 2 ^ n) (pow_pos w)))

  module _ (s u d : ℕ) (es : s ≡ y / 2 ^ n) (eu : u ≡ bit_xor x s) (ed : d ≡ bit_and u m) where
    d_is : d ≡ differing
    d_is = ed ∙ ap (λ v. bit_and v m) (eu ∙ ap (bit_xor x) es)

    pub made_first : (t : ℕ) → t ≡ bit_xor x d → t < 2 ^ w → t ≡ crossed_first w m n x y
    made_first t e l = let h : t ≡ bit_xor x differing = e ∙ ap (bit_xor x) d_is in h ∙ crossed_first_below (rw h at l)

    pub made_second : (v t : ℕ) → v ≡ d * 2 ^ n % 2 ^ w → t ≡ bit_xor y v → t < 2 ^ w → t ≡ crossed_second w m n x y
    made_second v t ev e l =
        let h : t ≡ bit_xor y (differing * 2 ^ n % 2 ^ w) = e ∙ ap (bit_xor y) (ev ∙ ap (λ q. q * 2 ^ n % 2 ^ w) d_is) in
        h ∙ crossed_second_below (rw h at l)

-- Numbers whose columns are chosen by a mask, by their bits.
picked_bits : (w m : ℕ) (g h f : ℕ → ℕ) → ((c : ℕ) → c < w → bit_of w m c ≡ 1 → g c ≡ f c) → ((c : ℕ) → c < w → bit_of w m c ≡ 0 → h c ≡ f c)
    → from_bits w (λ c. pick (bit_of w m c) (g c) (h c)) ≡ from_bits w f
unfolding pick
picked_bits w m g h f yes-is no-is =
    from_bits_ext w (λ c. pick (bit_of w m c) (g c) (h c)) f (λ c l. ap (λ u. u % 2) (by_mask w m c (λ e. rw e (yes-is c l e)) (λ e. rw e (no-is c l e))))

chosen_bits : (m x y : ℕ) (f : ℕ → ℕ) → ((c : ℕ) → c < 16 → bit_of 16 m c ≡ 1 → bit_of 16 x c ≡ f c)
    → ((c : ℕ) → c < 16 → bit_of 16 m c ≡ 0 → bit_of 16 y c ≡ f c) → chosen m x y ≡ from_bits 16 f
unfolding chosen
chosen_bits m x y f yes-is no-is = picked_bits 16 m (bit_of 16 x) (bit_of 16 y) f yes-is no-is

-- ---- the bit rows of a stage

module _ (b : List ℕ) (m i x y t : ℕ) (p : x ≡ get_or b (i / 2) 0) (q : y ≡ get_or b (8 + i / 2) 0) where
  pub rows_even : i % 2 ≡ 0 → t ≡ chosen m y x → t ≡ row_word (rows_stage m b) i
  unfolding row_word rows_stage bit_at own other pick
  rows_even h e =
      e ∙ chosen_bits m y x (rows_stage m b i) (λ c l u. rw (u, h) (ap (λ v. bit_of 16 v c) q)) (λ c l u. rw (u, h) (ap (λ v. bit_of 16 v c) p))

  pub rows_odd : i % 2 ≡ 1 → t ≡ chosen m x y → t ≡ row_word (rows_stage m b) i
  unfolding row_word rows_stage bit_at own other pick
  rows_odd h e =
      e ∙ chosen_bits m x y (rows_stage m b i) (λ c l u. rw (u, h) (ap (λ v. bit_of 16 v c) p)) (λ c l u. rw (u, h) (ap (λ v. bit_of 16 v c) q))

pub columns_even : (b : List ℕ) (m n i x : ℕ) → i % 2 ≡ 0 → x ≡ get_or b (i / 2) 0 → x < 2 ^ 16 → x ≡ row_word (columns_stage m n b) i
unfolding row_word columns_stage columns_column bit_at own pick
columns_even b m n i x h p l =
    sym (from_bits_bit_of 16 x l)
    ∙ from_bits_ext 16 (bit_of 16 x) (columns_stage m n b i) (λ c lc. ap (λ u. u % 2) (rw h (ap (λ v. bit_of 16 v c) p)))

pub columns_odd : (b : List ℕ) (m n i y t : ℕ) → Mask 16 m n → i % 2 ≡ 1 → y ≡ get_or b (8 + i / 2) 0
    → t ≡ chosen m (y / 2 ^ n) (y * 2 ^ n % 2 ^ 16) → t ≡ row_word (columns_stage m n b) i
unfolding row_word columns_stage columns_column bit_at own pick
columns_odd b m n i y t k h q e =
    e ∙ chosen_bits m (y / 2 ^ n) (y * 2 ^ n % 2 ^ 16) (columns_stage m n b i)
    (λ c l u. shr_bit 16 y n c (k.right c l u) l ∙ rw (u, h) (ap (λ v. bit_of 16 v (c - n)) q))
    (λ c l u. shl_bit 16 y n c (k.left c l u) ∙ rw (u, h) (ap (λ v. bit_of 16 v (c + n)) q))

-- One of 2R numbers of w bits.
module _ (R w : ℕ) (b : List ℕ) (i x y t : ℕ) (p : x ≡ get_or b (i / 2) 0) (q : y ≡ get_or b (R + i / 2) 0) (m n : ℕ) where
  pub cross_even : i % 2 ≡ 0 → t ≡ crossed_first w m n x y → t ≡ cross_word R w m n b i
  unfolding cross_word moved_word cross_row cross_column crossed_first pick
  cross_even h e =
      e ∙ picked_bits w m (λ c. bit_of w y (c - n)) (bit_of w x) (λ c. bit_of w (get_or b (cross_row R w m i c) 0) (cross_column w m n i c))
      (λ c l u. rw (u, h) (ap (λ v. bit_of w v (c - n)) q)) (λ c l u. rw (u, h) (ap (λ v. bit_of w v c) p))

  pub cross_odd : i % 2 ≡ 1 → t ≡ crossed_second w m n x y → t ≡ cross_word R w m n b i
  unfolding cross_word moved_word cross_row cross_column crossed_second pick
  cross_odd h e =
      e ∙ picked_bits w m (bit_of w y) (λ c. bit_of w x (c + n)) (λ c. bit_of w (get_or b (cross_row R w m i c) 0) (cross_column w m n i c))
      (λ c l u. rw (u, h) (ap (λ v. bit_of w v c) q)) (λ c l u. rw (u, h) (ap (λ v. bit_of w v (c + n)) p))

-- A value in a list, and the number that it is there.
pub numbered : {A : Type 0} (f : A → ℕ) (xs : List A) (k : ℕ) (x : A) → x ≡ get_or xs k x → k < length xs → f x ≡ get_or (map f xs) k 0
numbered f xs k x e l = ap f e ∙ sym (get_or-map f xs k x 0 l)

-- A stage over a type parameter, at a type whose values are the numbers.
pub as_numbers : (R w m n : ℕ) (b y : List ℕ) → map (λ x. x) y ≡ cross_stage R w m n (map (λ x. x) b) → y ≡ cross_stage R w m n b
as_numbers R w m n b y e = simp map-id at e

-- ---- stages one after the other

-- Places that are computed.
within : (n w z : ℕ) (f : ℕ → ℕ → ℕ) → T (every n (λ i. every w (λ c. ltb (f i c) z))) → (i c : ℕ) → i < n → c < w → f i c < z
within n w z f t i c li lc = ltb→lt (f i c) z (each w (λ c. ltb (f i c) z) (each n (λ i. every w (λ c. ltb (f i c) z)) t i li) c lc)

stages_then : {n w : ℕ} {r₁ c₁ r₂ c₂ : ℕ → ℕ → ℕ} {b x y : List ℕ} → Moves n w r₁ c₁ b x → Moves n w r₂ c₂ x y
    → T (every n (λ i. every w (λ c. ltb (r₂ i c) n))) → T (every n (λ i. every w (λ c. ltb (c₂ i c) w)))
    → Moves n w (λ i c. r₁ (r₂ i c) (c₂ i c)) (λ i c. c₁ (r₂ i c) (c₂ i c)) b y
stages_then {n} {w} {r₂ = r₂} {c₂ = c₂} h k p q = moves_then h k (within n w n r₂ p) (within n w w c₂ q)

rows_moves : (m : ℕ) (b y : List ℕ) → y ≡ block (rows_stage m b) → Moves 16 16 (λ i c. pick (bit_of 16 m c) (other i) (own i)) (λ i c. c) b y
unfolding moved rows_stage
rows_moves m b y e = record { is = e ∙ sym (block_moved (λ i c. pick (bit_of 16 m c) (other i) (own i)) (λ i c. c) b) }

columns_moves : (m n : ℕ) (b y : List ℕ) → y ≡ block (columns_stage m n b) → Moves 16 16 (λ i c. own i) (columns_column m n) b y
unfolding moved columns_stage
columns_moves m n b y e = record { is = e ∙ sym (block_moved (λ i c. own i) (columns_column m n) b) }

cross_moves : (R w m n : ℕ) (b y : List ℕ) → y ≡ cross_stage R w m n b → Moves (2 * R) w (cross_row R w m) (cross_column w m n) b y
unfolding cross_stage
cross_moves R w m n b y e = record { is = e }

pub rows_exchanged_lem : (b t u v r : List ℕ) → t ≡ block (rows_stage 255 b) → u ≡ block (rows_stage 3855 t) → v ≡ block (rows_stage 13107 u)
    → r ≡ block (rows_stage 21845 v) → r ≡ rows_exchanged b
unfolding rows_exchanged own other pick bit_of ◌⊕◌
rows_exchanged_lem b t u v r p q s w =
    moves_same (λ i c. i ⊕ c) (λ i c. c)
    (stages_then (stages_then (stages_then (rows_moves 255 b t p) (rows_moves 3855 t u q) tt tt) (rows_moves 13107 u v s) tt tt) (rows_moves 21845 v r w) tt tt) tt tt
    ∙ block_moved (λ i c. i ⊕ c) (λ i c. c) b

pub columns_exchanged_lem : (b t u v r : List ℕ) → t ≡ block (columns_stage 255 8 b) → u ≡ block (columns_stage 3855 4 t)
    → v ≡ block (columns_stage 13107 2 u) → r ≡ block (columns_stage 21845 1 v) → r ≡ columns_exchanged b
unfolding columns_exchanged own columns_column pick bit_of ◌⊕◌
columns_exchanged_lem b t u v r p q s w =
    moves_same (λ i c. i) (λ i c. c ⊕ i)
    (stages_then (stages_then (stages_then (columns_moves 255 8 b t p) (columns_moves 3855 4 t u q) tt tt) (columns_moves 13107 2 u v s) tt tt) (columns_moves 21845 1 v r w) tt tt) tt tt
    ∙ block_moved (λ i c. i) (λ i c. c ⊕ i) b

pub block_transposed : (b t u v r : List ℕ) → t ≡ cross_stage 8 16 255 8 b → u ≡ cross_stage 8 16 3855 4 t → v ≡ cross_stage 8 16 13107 2 u
    → r ≡ cross_stage 8 16 21845 1 v → r ≡ transposed b
unfolding transposed cross_row cross_column pick bit_of
block_transposed b t u v r p q s w =
    moves_same (λ i c. c) (λ i c. i)
    (stages_then (stages_then (stages_then (cross_moves 8 16 255 8 b t p) (cross_moves 8 16 3855 4 t u q) tt tt) (cross_moves 8 16 13107 2 u v s) tt tt) (cross_moves 8 16 21845 1 v r w) tt tt) tt tt
    ∙ block_moved (λ i c. c) (λ i c. i) b

pub eight_transposed_lem : (b u v r : List ℕ) → u ≡ cross_stage 4 64 1085102592571150095 4 b → v ≡ cross_stage 4 64 3689348814741910323 2 u
    → r ≡ cross_stage 4 64 6148914691236517205 1 v → r ≡ eight_transposed b
unfolding eight_transposed cross_row cross_column pick bit_of
eight_transposed_lem b u v r p q s =
    moves_same (λ i c. c % 8) (λ i c. c / 8 * 8 + i)
    (stages_then (stages_then (cross_moves 4 64 1085102592571150095 4 b u p) (cross_moves 4 64 3689348814741910323 2 u v q) tt tt) (cross_moves 4 64 6148914691236517205 1 v r s) tt tt) tt tt

pub two_transposed_lem : (b t u v r : List ℕ) → t ≡ cross_stage 8 32 16711935 8 b → u ≡ cross_stage 8 32 252645135 4 t
    → v ≡ cross_stage 8 32 858993459 2 u → r ≡ cross_stage 8 32 1431655765 1 v → r ≡ two_transposed b
unfolding two_transposed cross_row cross_column pick bit_of
two_transposed_lem b t u v r p q s w =
    moves_same (λ i c. c % 16) (λ i c. c / 16 * 16 + i)
    (stages_then (stages_then (stages_then (cross_moves 8 32 16711935 8 b t p) (cross_moves 8 32 252645135 4 t u q) tt tt) (cross_moves 8 32 858993459 2 u v s) tt tt) (cross_moves 8 32 1431655765 1 v r w) tt tt) tt tt

pub ruleset the_masks = (mask8, mask4, mask2, mask1, eight4, eight2, eight1, two8, two4, two2, two1)

pub ruleset rows = (rows_even, rows_odd, columns_even, columns_odd, numbered, cross_even, cross_odd)

-- What the crate's functions rest on.
pub ruleset permuting = (the_masks, rows, as_numbers, rows_exchanged_lem, columns_exchanged_lem, block_transposed, eight_transposed_lem, two_transposed_lem)
