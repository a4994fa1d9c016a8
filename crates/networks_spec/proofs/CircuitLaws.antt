-- A circuit forms the sums of a network where the computed masks of its sums are the rows of the matrix.
-- Assumes nothing.
use Rattle.std.specs.Prelude.{◌≡◌, cond, T, eqb, length}
use Rattle.std.proofs.Math.Path.{refl, sym, ap, ap₂}
use Rattle.std.proofs.Common.{◌∙◌, arith, eq-eqb, ne_eqb}
use mathlib.Core.List.{List, [], ◌∷◌}
use Prim.Native.Nat.{ℕ, zero, suc, ◌*◌, ◌/◌, ◌%◌, ◌^◌, ◌<◌}
use Rattle.std.proofs.Math.Nat.{zero-mul, one-mul}
use Rattle.std.proofs.Math.Decide.{dec_lt}
use Rattle.std.proofs.Math.ListN.{get_or}
use Rattle.std.proofs.Math.Pow.{shr_le}
use Rattle.bits.specs.Lists.{tabulate}
use Rattle.bits.specs.ListLaws.{length_tabulate, get_d_tabulate, tabulate_ext}
use Rattle.bits.specs.Tests.{every, grid}
use Rattle.bits.specs.Xor.{◌⊕◌, xor_sum}
use Rattle.bits.proofs.XorLaws.{⊕_zero, ⊕_shr, ⊕_mod, bits_⊕_times, xor_sum_ext, xor_sum_⊕, xor_sum_none, xor_sum_one}
use Rattle.networks_spec.specs.Networks.{taken, marked, network_sum, network, back_columns, front_columns, up64_columns, up32_columns, up16_columns, check_columns}
use Rattle.networks_spec.specs.Circuits.{run, circuit, back_steps, back_sums, front_steps, front_sums, up64_steps, up64_sums}
use Rattle.networks_spec.specs.Circuits.{up32_steps, up32_sums, up16_steps, up16_sums, check_steps, check_sums}

-- The sum of the numbers at the bits of m.
picked : List ℕ → ℕ → ℕ
picked x m = xor_sum 16 (λ j. m / 2 ^ j % 2 * get_or x j 0)

picked_⊕ : (x : List ℕ) (m n : ℕ) → picked x m ⊕ picked x n ≡ picked x (m ⊕ n)
unfolding picked
picked_⊕ x m n =
    sym (xor_sum_⊕ 16 (λ j. m / 2 ^ j % 2 * get_or x j 0) (λ j. n / 2 ^ j % 2 * get_or x j 0))
    ∙ xor_sum_ext 16 (λ j. m / 2 ^ j % 2 * get_or x j 0 ⊕ n / 2 ^ j % 2 * get_or x j 0) (λ j. (m ⊕ n) / 2 ^ j % 2 * get_or x j 0)
    (λ j l. sym (ap (λ b. b * get_or x j 0) (ap (λ u. u % 2) (⊕_shr m n j) ∙ ⊕_mod (m / 2 ^ j) (n / 2 ^ j))
    ∙ bits_⊕_times (m / 2 ^ j % 2) (n / 2 ^ j % 2) (get_or x j 0) (omega arith) (omega arith)))

-- Numbers that are such sums, by a list of masks, stay so in every step.
module _ (x : List ℕ) where
  Agree : List ℕ → List ℕ → Type 0
  Agree vs ms = (i : ℕ) → get_or vs i 0 ≡ picked x (get_or ms i 0)

  run_agree : (steps : List (ℕ × ℕ)) (vs ms : List ℕ) → Agree vs ms → Agree (run steps vs) (run steps ms)
  unfolding run Agree
  run_agree [] vs ms a = a
  run_agree (s ∷ steps) vs ms a = run_agree steps ((get_or vs s.0 0 ⊕ get_or vs s.1 0) ∷ vs) ((get_or ms s.0 0 ⊕ get_or ms s.1 0) ∷ ms) next
    where
      next : (i : ℕ) → get_or ((get_or vs s.0 0 ⊕ get_or vs s.1 0) ∷ vs) i 0 ≡ picked x (get_or ((get_or ms s.0 0 ⊕ get_or ms s.1 0) ∷ ms) i 0)
      next zero = ap₂ ◌⊕◌ (a s.0) (a s.1) ∙ picked_⊕ x (get_or ms s.0 0) (get_or ms s.1 0)
      next (suc i) = a i

  one_bit : (i j : ℕ) → i < 16 → j < 16 → 2 ^ i / 2 ^ j % 2 ≡ cond (eqb j i) 1 0
  one_bit = grid 16 16 (λ i j. 2 ^ i / 2 ^ j % 2) (λ i j. cond (eqb j i) 1 0) tt

  alone : (i : ℕ) → i < 16 → picked x (2 ^ i) ≡ get_or x i 0
  unfolding picked
  alone i l =
      xor_sum_one 16 i (λ j. 2 ^ i / 2 ^ j % 2 * get_or x j 0) l
      (λ j lj n. ap (λ b. b * get_or x j 0) (one_bit i j l lj ∙ simp (ne_eqb j i n)) ∙ zero-mul (get_or x j 0))
      ∙ ap (λ b. b * get_or x i 0) (one_bit i i l l ∙ simp (eq-eqb i i refl)) ∙ one-mul (get_or x i 0)

  none : picked x 0 ≡ 0
  unfolding picked
  none =
      xor_sum_none 16 (λ j. 0 / 2 ^ j % 2 * get_or x j 0)
      (λ j l. let z : 0 / 2 ^ j ≡ 0 = omega (arith, shr_le 0 j) in ap (λ u. u % 2 * get_or x j 0) z ∙ zero-mul (get_or x j 0))

  beyond : (n : ℕ) (f : ℕ → ℕ) (i : ℕ) → (i < n → ⊥) → get_or (tabulate n f) i 0 ≡ 0
  beyond n f i h = past (tabulate n f) i (λ l. h (omega (arith, length_tabulate n f)))
    where
      past : (l : List ℕ) (i : ℕ) → (i < length l → ⊥) → get_or l i 0 ≡ 0
      past [] i h = refl
      past (a ∷ l) zero h = absurd (h (omega arith))
      past (a ∷ l) (suc i) h = past l i (λ m. h (omega arith))

  starts : Agree (tabulate 16 (λ j. get_or x j 0)) (tabulate 16 (λ j. 2 ^ j))
  unfolding Agree
  starts i = go (dec_lt i 16)
    where
      go : Dec (i < 16) → get_or (tabulate 16 (λ j. get_or x j 0)) i 0 ≡ picked x (get_or (tabulate 16 (λ j. 2 ^ j)) i 0)
      go (yes l) = get_d_tabulate 16 (λ j. get_or x j 0) i 0 l ∙ sym (alone i l) ∙ ap (picked x) (sym (get_d_tabulate 16 (λ j. 2 ^ j) i 0 l))
      go (no l) = beyond 16 (λ j. get_or x j 0) i l ∙ sym none ∙ ap (picked x) (sym (beyond 16 (λ j. 2 ^ j) i l))

  -- A sum of the network is that at a row of the matrix.
  marked_sum : (n : ℕ) (t f : ℕ → ℕ) → ((j : ℕ) → t j < 2) → marked n t f ≡ xor_sum n (λ j. t j * f j)
  unfolding marked xor_sum taken
  marked_sum zero t f h = refl
  marked_sum (suc n) t f h = go (t n) (h n) ∙ ap (λ u. u ⊕ t n * f n) (marked_sum n t f h)
    where
      go : (b : ℕ) → b < 2 → taken b (marked n t f) (f n) ≡ marked n t f ⊕ b * f n
      go zero l = sym (ap (λ u. marked n t f ⊕ u) (zero-mul (f n)) ∙ ⊕_zero (marked n t f))
      go (suc zero) l = ap (λ u. marked n t f ⊕ u) (sym (one-mul (f n)))
      go (suc (suc b)) l = absurd (omega arith)

-- The masks of the sums, bit by bit, beside the columns.
pub circuit_network : (steps : List (ℕ × ℕ)) (sums columns : List ℕ)
    → T (every 16 (λ i. every 16 (λ j. eqb (get_or (run steps (tabulate 16 (λ j. 2 ^ j))) (get_or sums i 0) 0 / 2 ^ j % 2) (get_or columns j 0 / 2 ^ i % 2))))
    → (x : List ℕ) → circuit steps sums x ≡ network columns x
unfolding circuit network network_sum picked Agree
circuit_network steps sums columns t x =
    tabulate_ext 16 (λ i. get_or (run steps (tabulate 16 (λ j. get_or x j 0))) (get_or sums i 0) 0) (network_sum columns x)
    (λ i l.
    run_agree x steps (tabulate 16 (λ j. get_or x j 0)) (tabulate 16 (λ j. 2 ^ j)) (starts x) (get_or sums i 0)
    ∙ xor_sum_ext 16 (λ j. get_or (run steps (tabulate 16 (λ j. 2 ^ j))) (get_or sums i 0) 0 / 2 ^ j % 2 * get_or x j 0) (λ j. get_or columns j 0 / 2 ^ i % 2 * get_or x j 0)
    (λ j lj. ap (λ b. b * get_or x j 0)
    (grid 16 16 (λ i j. get_or (run steps (tabulate 16 (λ j. 2 ^ j))) (get_or sums i 0) 0 / 2 ^ j % 2) (λ i j. get_or columns j 0 / 2 ^ i % 2) t i j l lj))
    ∙ sym (marked_sum x 16 (λ j. get_or columns j 0 / 2 ^ i % 2) (λ j. get_or x j 0) (λ j. omega arith)))

pub back_circuit : (x : List ℕ) → circuit back_steps back_sums x ≡ network back_columns x
unfolding run tabulate back_steps back_sums back_columns ◌⊕◌
back_circuit = circuit_network back_steps back_sums back_columns tt

pub front_circuit : (x : List ℕ) → circuit front_steps front_sums x ≡ network front_columns x
unfolding run tabulate front_steps front_sums front_columns ◌⊕◌
front_circuit = circuit_network front_steps front_sums front_columns tt

pub up64_circuit : (x : List ℕ) → circuit up64_steps up64_sums x ≡ network up64_columns x
unfolding run tabulate up64_steps up64_sums up64_columns ◌⊕◌
up64_circuit = circuit_network up64_steps up64_sums up64_columns tt

pub up32_circuit : (x : List ℕ) → circuit up32_steps up32_sums x ≡ network up32_columns x
unfolding run tabulate up32_steps up32_sums up32_columns ◌⊕◌
up32_circuit = circuit_network up32_steps up32_sums up32_columns tt

pub up16_circuit : (x : List ℕ) → circuit up16_steps up16_sums x ≡ network up16_columns x
unfolding run tabulate up16_steps up16_sums up16_columns ◌⊕◌
up16_circuit = circuit_network up16_steps up16_sums up16_columns tt

pub check_circuit : (x : List ℕ) → circuit check_steps check_sums x ≡ network check_columns x
unfolding run tabulate check_steps check_sums check_columns ◌⊕◌
check_circuit = circuit_network check_steps check_sums check_columns tt
