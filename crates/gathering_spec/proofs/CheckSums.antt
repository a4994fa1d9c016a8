-- The check bits of words from what is gathered of them: sum i of the network of check bits is bit check_place i of their completions.
-- Assumes nothing.
use Rattle.std.specs.Prelude.{◌≡◌, refl, cond, List, ◌++◌, ltb}
use Rattle.std.proofs.Math.Path.{sym, ap₂}
use Rattle.std.proofs.Common.{ap, ◌∙◌, arith, lt-ltb, le-ltb}
use Prim.Native.Nat.{ℕ, suc, ◌+◌, ◌-◌, ◌*◌, ◌/◌, ◌%◌, ◌^◌, ◌<◌, ◌≤◌}
use Rattle.std.proofs.Math.Decide.{dec_lt}
use Rattle.std.proofs.Math.ListN.{get_or}
use Rattle.bits.specs.Bits.{bit_of}
use Rattle.bits.proofs.BitLaws.{bit_of_lt}
use Rattle.bits.specs.Tests.{agree, grid}
use Rattle.bits.specs.Xor.{◌⊕◌, xor_sum}
use Rattle.bits.proofs.XorLaws.{sums, xor_sum_ext, xor_sum_split, xor_sum_first}
use Rattle.gf256.specs.Linear.{Linear, additive, lin, bit_through, sum_through}
use Rattle.word_spec.specs.CodeWord.{Word, parity}
use Rattle.word_spec.specs.Completion.{first_bits, completed}
use Rattle.word_spec.proofs.CheckBitLaws.{check_bits, check_parity}
use Rattle.word_spec.specs.Syndromes.{S1, S3, S1_checks, S3_checks}
use Rattle.networks_spec.specs.Networks.{network, check_columns}
use Rattle.networks_spec.proofs.NetworkLaws.{bit_of_⊕, digit_linear, network_shows, lin_sum}
use Rattle.gathering_spec.specs.Sums.{Gathered, Parities, check_place}

pub place_low : (i : ℕ) → i < 7 → check_place i ≡ 248 + i
unfolding check_place
place_low i l = simp (lt-ltb i 7 l)

pub place_high : (i : ℕ) → 8 ≤ i → check_place i ≡ 232 + i
unfolding check_place
place_high i l = let m : 7 ≤ i = omega arith in simp (le-ltb i 7 m, le-ltb i 8 l)

pub place_mid : check_place 7 ≡ 239
unfolding check_place
place_mid = refl

place_lt : (i : ℕ) → i < 16 → (239 ≤ check_place i) × (check_place i < 255)
place_lt i l = go (dec_lt i 7) (dec_lt i 8)
  where
    go : Dec (i < 7) → Dec (i < 8) → (239 ≤ check_place i) × (check_place i < 255)
    go (yes m) d = (omega (arith, place_low i m), omega (arith, place_low i m))
    go (no m) (yes d) = let e : i ≡ 7 = omega arith in rw e (omega (arith, place_mid), omega (arith, place_mid))
    go (no m) (no d) = (omega (arith, place_high i (omega arith)), omega (arith, place_high i (omega arith)))

-- ---- the columns

check_columns_lem : (i j : ℕ) → i < 16 → j < 16 → get_or check_columns j 0 / 2 ^ i % 2 ≡ get_or (S1_checks ++ S3_checks) j 0 / 2 ^ (254 - check_place i) % 2
unfolding check_columns S1_checks S3_checks check_place
check_columns_lem = grid 16 16 (λ i j. get_or check_columns j 0 / 2 ^ i % 2) (λ i j. get_or (S1_checks ++ S3_checks) j 0 / 2 ^ (254 - check_place i) % 2) tt

first_eight : (j : ℕ) → j < 8 → get_or (S1_checks ++ S3_checks) j 0 ≡ get_or S1_checks j 0
unfolding S1_checks S3_checks
first_eight = agree 8 (λ j. get_or (S1_checks ++ S3_checks) j 0) (λ j. get_or S1_checks j 0) tt

last_eight : (j : ℕ) → j < 8 → get_or (S1_checks ++ S3_checks) (8 + j) 0 ≡ get_or S3_checks j 0
unfolding S1_checks S3_checks
last_eight = agree 8 (λ j. get_or (S1_checks ++ S3_checks) (8 + j) 0) (λ j. get_or S3_checks j 0) tt

-- ---- a sum of the network

module _ {words : ℕ → Word} {t : List ℕ} (g : Gathered words t) (w : ℕ) (lw : w < 32) where
  digit : (cs : List ℕ) (p : ℕ) → xor_sum 16 (λ j. bit_of 32 (get_or t j 0) w * get_or cs j 0) / 2 ^ p % 2
      ≡ xor_sum 16 (λ j. bit_of 32 (get_or t j 0) w * (get_or cs j 0 / 2 ^ p % 2))
  digit cs p =
      sum_through (digit_linear p) 16 (λ j. bit_of 32 (get_or t j 0) w * get_or cs j 0)
      ∙ xor_sum_ext 16 (λ j. bit_of 32 (get_or t j 0) w * get_or cs j 0 / 2 ^ p % 2) (λ j. bit_of 32 (get_or t j 0) w * (get_or cs j 0 / 2 ^ p % 2))
      (λ j l. bit_through (digit_linear p) (bit_of 32 (get_or t j 0) w) (get_or cs j 0) (bit_of_lt 32 (get_or t j 0) w))

  whole : xor_sum 16 (λ j. bit_of 32 (get_or t j 0) w * get_or (S1_checks ++ S3_checks) j 0) ≡ lin S1_checks (S1 (words w)) ⊕ lin S3_checks (S3 (words w))
  unfolding S1_checks S3_checks
  whole =
      xor_sum_split 8 8 (λ j. bit_of 32 (get_or t j 0) w * get_or (S1_checks ++ S3_checks) j 0)
      ∙ ap₂ ◌⊕◌
      (xor_sum_ext 8 (λ j. bit_of 32 (get_or t j 0) w * get_or (S1_checks ++ S3_checks) j 0) (λ j. S1 (words w) / 2 ^ j % 2 * get_or S1_checks j 0)
      (λ j l. ap₂ ◌*◌ (g.first w j lw l) (first_eight j l)) ∙ sym (lin_sum S1_checks (S1 (words w))))
      (xor_sum_ext 8 (λ j. bit_of 32 (get_or t (8 + j) 0) w * get_or (S1_checks ++ S3_checks) (8 + j) 0) (λ j. S3 (words w) / 2 ^ j % 2 * get_or S3_checks j 0)
      (λ j l. ap₂ ◌*◌ (g.third w j lw l) (last_eight j l)) ∙ sym (lin_sum S3_checks (S3 (words w))))

  check_sum : (i : ℕ) → i < 16
      → bit_of 32 (get_or (network check_columns t) i 0) w ≡ (lin S1_checks (S1 (words w)) ⊕ lin S3_checks (S3 (words w))) / 2 ^ (254 - check_place i) % 2
  check_sum i l =
      (network_shows 32 check_columns t w (λ j. bit_of 32 (get_or t j 0) w) (λ j lj. refl)).bits i l
      ∙ digit check_columns i
      ∙ xor_sum_ext 16 (λ j. bit_of 32 (get_or t j 0) w * (get_or check_columns j 0 / 2 ^ i % 2))
      (λ j. bit_of 32 (get_or t j 0) w * (get_or (S1_checks ++ S3_checks) j 0 / 2 ^ (254 - check_place i) % 2))
      (λ j lj. ap (λ u. bit_of 32 (get_or t j 0) w * u) (check_columns_lem i j l lj))
      ∙ sym (digit (S1_checks ++ S3_checks) (254 - check_place i))
      ∙ ap (λ u. u / 2 ^ (254 - check_place i) % 2) whole

-- ---- the completions

-- The bits 239 to 254 in their order and in that of the sums.
in_order : (f : ℕ → ℕ) → xor_sum 16 (λ i. f (check_place i)) ≡ xor_sum 16 (λ i. f (239 + i))
in_order f =
    xor_sum_split 7 9 (λ i. f (check_place i))
    ∙ ap₂ ◌⊕◌ (xor_sum_ext 7 (λ i. f (check_place i)) (λ i. f (248 + i)) (λ i l. ap f (place_low i l)))
    (xor_sum_first 8 (λ i. f (check_place (7 + i)))
    ∙ ap₂ ◌⊕◌ (ap (λ i. f (check_place i)) seven ∙ ap f place_mid)
    (xor_sum_ext 8 (λ i. f (check_place (7 + suc i))) (λ i. f (240 + i)) (λ i l. ap f (place_high (7 + suc i) (omega arith) ∙ omega arith))))
    ∙ swap (xor_sum 7 (λ i. f (248 + i))) (f 239) (xor_sum 8 (λ i. f (240 + i)))
    ∙ sym (xor_sum_split 9 7 (λ i. f (239 + i))
    ∙ ap₂ ◌⊕◌ (xor_sum_first 8 (λ i. f (239 + i)) ∙ ap₂ ◌⊕◌ (ap f start) (xor_sum_ext 8 (λ i. f (239 + suc i)) (λ i. f (240 + i)) (λ i l. ap f (omega arith))))
    (xor_sum_ext 7 (λ i. f (239 + (9 + i))) (λ i. f (248 + i)) (λ i l. ap f (omega arith))))
  where
    seven : 7 + 0 ≡ 7
    seven = omega arith

    start : 239 + 0 ≡ 239
    start = omega arith

    swap : (a b c : ℕ) → a ⊕ (b ⊕ c) ≡ (b ⊕ c) ⊕ a
    swap a b c = simp sums

bit_linear : (w : ℕ) → Linear (λ v. bit_of 32 v w)
bit_linear w = additive (λ v. bit_of 32 v w) (λ a b. bit_of_⊕ 32 a b w)

module _ (words : ℕ → Word) (bits : (w k : ℕ) → k < 239 → words w k < 2) (t : List ℕ) (q : ℕ) (g : Gathered (λ w. first_bits (words w)) t)
    (o : Parities (λ w. first_bits (words w)) q) (w : ℕ) (lw : w < 32) where
  -- Bit check_place i
  pub checked : (i : ℕ) → i < 16 → bit_of 32 (get_or (network check_columns t) i 0) w ≡ completed (words w) (check_place i)
  checked i l = check_sum g w lw i l ∙ sym (check_bits (words w) (bits w) (check_place i) (place_lt i l).0 (place_lt i l).1)

  -- and bit 255.
  pub checked_parity : bit_of 32 (q ⊕ xor_sum 16 (λ i. get_or (network check_columns t) i 0)) w ≡ completed (words w) 255
  checked_parity =
      bit_of_⊕ 32 q (xor_sum 16 (λ i. get_or (network check_columns t) i 0)) w
      ∙ ap₂ ◌⊕◌ (o.parity_of w lw)
      (sum_through (bit_linear w) 16 (λ i. get_or (network check_columns t) i 0)
      ∙ xor_sum_ext 16 (λ i. bit_of 32 (get_or (network check_columns t) i 0) w) (λ i. completed (words w) (check_place i)) checked
      ∙ in_order (completed (words w)))
      ∙ turn (parity (first_bits (words w))) (xor_sum 16 (λ i. completed (words w) (239 + i)))
      ∙ sym (check_parity (words w) (bits w))
    where
      turn : (a b : ℕ) → a ⊕ b ≡ b ⊕ a
      turn a b = simp sums
