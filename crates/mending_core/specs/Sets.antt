-- Sets of words as numbers of 32 bits: bit w is set where word w is in the set. Code takes the first word of a set out of it, until none is
-- left.
-- Assumes nothing.
use Rattle.std.specs.Prelude.{◌≡◌, cond, ◌≢◌, ℕ, suc, ◌+◌, ◌-◌, ◌*◌, ◌/◌, ◌%◌, ◌^◌, ◌<◌, ◌≤◌, eqb}
use Rattle.std.proofs.Common.{sym, ap, ◌∙◌, one-mul, pow-suc, arith, eq-eqb, ne_eqb, lit<, shl_exact}
use Rattle.std.proofs.Math.Nat.{div-eq_of_lt}
use Rattle.std.proofs.Math.Decide.{ℕ_discrete}
use Rattle.std.specs.Int.Count.{count_leading_zeros}
use Rattle.std.proofs.lemmas.Nat.{leading_top}
use Rattle.bits.specs.Bits.{bit_of}
use Rattle.bits.specs.Tests.{grid}
use Rattle.bits.specs.Xor.{◌⊕◌}
use Rattle.bits.proofs.XorLaws.{⊕_shifted}
use Rattle.networks_spec.proofs.NetworkLaws.{bit_of_⊕}

-- The first word of a set.
pub record First (left w : ℕ) : Type 0 where
  pub top : 2 ^ (31 - w) ≤ left
  pub last : left < 2 ^ (31 - w) + 2 ^ (31 - w)

-- r is the set without word w, which it has.
pub record Removed (left w r : ℕ) : Type 0 where
  pub fewer : r < left
  pub gone : bit_of 32 r w ≡ 0
  pub each : (u : ℕ) → u < 32 → bit_of 32 left u ≡ cond (eqb u w) 1 0 ⊕ bit_of 32 r u

first_from : (left w j : ℕ) → w + suc j ≡ 32 → 2 ^ j ≤ left → left < 2 ^ suc j → First left w × (w < 32)
first_from left w j s t l =
    let e : 31 - w ≡ j = omega arith in
    (record { top = rw e t; last = rw e (omega (arith, l, pow-suc 2 j)) }, omega arith)

pub first_is : (left w : ℕ) → 0 < left → left < 2 ^ 32 → w ≡ count_leading_zeros 32 left → First left w × (w < 32)
first_is left w p l e =
    let f = leading_top 32 left p l in
    first_from left w f.0 (ap (λ n. n + suc f.0) e ∙ f.1) f.2 f.3

-- The bits of a power of two, as a number of w bits.
power_digit : (i k : ℕ) → i < 32 → k < 32 → 2 ^ i / 2 ^ k % 2 ≡ cond (eqb k i) 1 0
power_digit = grid 32 32 (λ i k. 2 ^ i / 2 ^ k % 2) (λ i k. cond (eqb k i) 1 0) tt

pub bit_of_power : (w j c : ℕ) → w ≤ 32 → j < w → c < w → bit_of w (2 ^ (w - 1 - j)) c ≡ cond (eqb c j) 1 0
unfolding bit_of
bit_of_power w j c lw lj lc = power_digit (w - 1 - j) (w - 1 - c) (omega arith) (omega arith) ∙ go (ℕ_discrete c j)
  where
    go : Dec (c ≡ j) → ◌≡◌ {A = ℕ} (cond (eqb (w - 1 - c) (w - 1 - j)) 1 0) (cond (eqb c j) 1 0)
    go (yes e) = let d : w - 1 - c ≡ w - 1 - j = omega arith in simp (eq-eqb c j e, eq-eqb (w - 1 - c) (w - 1 - j) d)
    go (no n) = let d : w - 1 - c ≢ w - 1 - j = λ e. n (omega arith) in simp (ne_eqb c j n, ne_eqb (w - 1 - c) (w - 1 - j) d)

removed : (left w : ℕ) → First left w → w < 32 → Removed left w (left - 2 ^ (31 - w))
unfolding bit_of
removed left w f lw = record { fewer = omega (arith, f.top, small); gone = ap (λ v. v % 2) (div-eq_of_lt small); each = split }
  where
    b : ℕ
    b = 2 ^ (31 - w)

    r : ℕ
    r = left - b

    small : r < b
    small = omega (arith, f.top, f.last)

    whole : left ≡ b ⊕ r
    whole = sym (ap (λ v. v ⊕ r) (sym (one-mul b)) ∙ ⊕_shifted 1 (31 - w) r small ∙ omega (arith, one-mul b, f.top))

    split : (u : ℕ) → u < 32 → bit_of 32 left u ≡ cond (eqb u w) 1 0 ⊕ bit_of 32 r u
    split u lu = ap (λ v. bit_of 32 v u) whole ∙ bit_of_⊕ 32 b r u ∙ ap (λ v. v ⊕ bit_of 32 r u) (bit_of_power 32 w u (omega arith) lw lu)

pub removed_is : (left w : ℕ) → First left w → w < 32 → Removed left w (left - 1 * 2 ^ (31 - w) % 2 ^ 32)
removed_is left w f lw =
    let e : 1 * 2 ^ (31 - w) % 2 ^ 32 ≡ 2 ^ (31 - w) = shl_exact 1 (31 - w) 32 (lit< tt) (omega arith) ∙ one-mul (2 ^ (31 - w)) in
    rw e (removed left w f lw)

-- As code needs it: the word is there to be taken out.
pub first_room : (left w : ℕ) → First left w → w < 32 → 1 * 2 ^ (31 - w) % 2 ^ 32 ≤ left
first_room left w f lw =
    let e : 1 * 2 ^ (31 - w) % 2 ^ 32 ≡ 2 ^ (31 - w) = shl_exact 1 (31 - w) 32 (lit< tt) (omega arith) ∙ one-mul (2 ^ (31 - w)) in
    rw e f.top
