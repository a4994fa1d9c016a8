-- A step of long division is linear: a register that doubles and takes the divisor away where it overflows.
-- Assumes nothing.
use Rattle.std.specs.Prelude.{◌≡◌, List, map, ℕ, suc, ◌+◌, ◌-◌, ◌*◌, ◌^◌, ◌<◌, ◌≤◌}
use Rattle.std.proofs.Common.{sym, ap, ◌∙◌, pow-suc, one-mul, arith, lt-ltb, le-ltb}
use Rattle.std.proofs.Math.Decide.{dec_lt}
use Rattle.bits.specs.Xor.{◌⊕◌}
use Rattle.bits.proofs.XorLaws.{⊕_assoc, ⊕_shifted, sums}
use Rattle.gf256.specs.Polynomials.{polynomial_number, reduce}
use Rattle.gf256.specs.Linear.{lin, units, lin_linear, linear_agree, lin_top, double}

pub reduce_low : (p : List ℕ) (d t : ℕ) → t < 2 ^ d → reduce p d t ≡ t
unfolding reduce
reduce_low p d t h = simp (lt-ltb t (2 ^ d) h)

pub reduce_high : (p : List ℕ) (d t : ℕ) → 2 ^ d ≤ t → reduce p d t ≡ t ⊕ polynomial_number p
unfolding reduce
reduce_high p d t h = simp (le-ltb t (2 ^ d) h)

-- The register of k + 1 bits as a linear map with columns cs: the k lower bits double, and the top bit becomes the divisor's
-- lower part.
module _ (p cs : List ℕ) (k : ℕ) (doubles : map (lin cs) (units k) ≡ map (λ x. x * 2) (units k))
    (over : lin cs (2 ^ k) ⊕ 2 ^ suc k ≡ polynomial_number p) where
  low : (x : ℕ) → x < 2 ^ k → lin cs x ≡ x * 2
  low x h = linear_agree (lin_linear cs) double k doubles x h

  high : (x : ℕ) → 2 ^ k ≤ x → x < 2 ^ suc k → lin cs x ⊕ 2 ^ suc k ≡ (x - 2 ^ k) * 2 ⊕ polynomial_number p
  high x l h =
      ap (λ u. u ⊕ 2 ^ suc k) (lin_top cs k x l h ∙ ap (λ u. u ⊕ lin cs (2 ^ k)) (low (x - 2 ^ k) (omega (arith, pow-suc 2 k))))
      ∙ ⊕_assoc ((x - 2 ^ k) * 2) (lin cs (2 ^ k)) (2 ^ suc k) ∙ ap (λ u. (x - 2 ^ k) * 2 ⊕ u) over

  top : (x : ℕ) → 2 ^ k ≤ x → x < 2 ^ suc k → x * 2 ≡ 2 ^ suc k ⊕ (x - 2 ^ k) * 2
  top x l h =
      let e : x * 2 ≡ 1 * 2 ^ suc k + (x - 2 ^ k) * 2 = omega (arith, pow-suc 2 k, one-mul (2 ^ suc k)) in
      e ∙ sym (⊕_shifted 1 (suc k) ((x - 2 ^ k) * 2) (omega (arith, pow-suc 2 k)))
      ∙ ap (λ u. u ⊕ (x - 2 ^ k) * 2) (one-mul (2 ^ suc k))

  -- One step, a bit b brought down.
  pub step_linear : (x b : ℕ) → x < 2 ^ suc k → b < 2 → reduce p (suc k) (x * 2 + b) ≡ lin cs x ⊕ b
  step_linear x b h hb = go (dec_lt x (2 ^ k))
    where
      regroup : (a c d n : ℕ) → ((a ⊕ c) ⊕ d) ⊕ n ≡ (a ⊕ (c ⊕ n)) ⊕ d
      regroup a c d n = simp sums

      undo : (y a : ℕ) → a ⊕ (y ⊕ a) ≡ y
      undo y a = simp sums

      go : Dec (x < 2 ^ k) → reduce p (suc k) (x * 2 + b) ≡ lin cs x ⊕ b
      go (yes l) =
          reduce_low p (suc k) (x * 2 + b) (omega (arith, pow-suc 2 k))
          ∙ sym (⊕_shifted x 1 b hb) ∙ ap (λ u. u ⊕ b) (sym (low x l))
      go (no n) =
          let l : 2 ^ k ≤ x = omega arith in
          reduce_high p (suc k) (x * 2 + b) (omega (arith, pow-suc 2 k))
          ∙ ap (λ u. u ⊕ polynomial_number p) (sym (⊕_shifted x 1 b hb) ∙ ap (λ u. u ⊕ b) (top x l h))
          ∙ regroup (2 ^ suc k) ((x - 2 ^ k) * 2) b (polynomial_number p)
          ∙ ap (λ u. (2 ^ suc k ⊕ u) ⊕ b) (sym (high x l h)) ∙ ap (λ u. u ⊕ b) (undo (lin cs x) (2 ^ suc k))
