-- A bit of a buffer as code flips it: its byte with one bit added by exclusive or.
-- Assumes nothing.
use Rattle.std.specs.Prelude.{◌≡◌, cond, List, ◌≢◌, ℕ, zero, suc, ◌-◌, ◌*◌, ◌/◌, ◌%◌, ◌^◌, ◌<◌, eqb, length, get_or}
use Rattle.std.proofs.Math.Path.{refl, ap}
use Rattle.std.proofs.Common.{◌∙◌, arith, lit<, length-set, shl_exact, get_or-set_other}
use Rattle.std.proofs.Math.Nat.{one-mul}
use Rattle.std.proofs.Math.Decide.{ℕ_discrete}
use borrow.Author.Tests.{eq-eqb, ne_eqb}
use Rattle.std.specs.Int.Bits.{differ}
use Rattle.std.proofs.Math.ListN.{set}
use Rattle.std.proofs.Math.Pow.{pow-lt}
use Rattle.std.proofs.Math.Seq.{get_or-set_same}
use Rattle.bits.specs.Bits.{bit_of, bit, pack, flipped}
use Rattle.bits.proofs.BitLaws.{is_pack, bit_lt, flipped_at, flipped_off}
use Rattle.bits.specs.Tests.{grid}
use Rattle.bits.specs.Xor.{◌⊕◌}
use Rattle.bits.proofs.XorLaws.{⊕_shr, ⊕_last, ⊕_lt}

-- Bit k of a byte that has bit r alone.
abbrev alone : ℕ → ℕ → ℕ
alone r k = cond (eqb k r) 1 0

one_bit : (r k : ℕ) → r < 8 → k < 8 → 2 ^ (7 - r) / 2 ^ (7 - k) % 2 ≡ alone r k
one_bit = grid 8 8 (λ r k. 2 ^ (7 - r) / 2 ^ (7 - k) % 2) alone tt

bit_of_⊕ : (x y k : ℕ) → bit_of 8 (x ⊕ y) k ≡ differ (bit_of 8 x k) (bit_of 8 y k)
unfolding bit_of
bit_of_⊕ x y k = ap (λ z. z % 2) (⊕_shr x y (8 - 1 - k)) ∙ ⊕_last (x / 2 ^ (8 - 1 - k)) (y / 2 ^ (8 - 1 - k))

differ_zero : (b : ℕ) → b < 2 → differ b 0 ≡ b
differ_zero zero h = refl
differ_zero (suc b) h = refl

differ_one : (b : ℕ) → b < 2 → differ b 1 ≡ 1 - b
differ_one zero h = refl
differ_one (suc zero) h = refl
differ_one (suc (suc b)) h = absurd (omega arith)

module _ (s : List ℕ) (i : ℕ) (inside : i < length s * 8) (bytes : (j : ℕ) → get_or s j 0 < 256) where
  changed : ℕ
  changed = get_or s (i / 8) 0 ⊕ 2 ^ (7 - i % 8)

  changed_lt : changed < 256
  unfolding changed
  changed_lt = ⊕_lt 8 (get_or s (i / 8) 0) (2 ^ (7 - i % 8)) (bytes (i / 8)) (pow-lt {i = 7 - i % 8} {j = 8} (omega arith))

  below : (j : ℕ) → get_or (set s (i / 8) changed) j 0 < 256
  below j = go (ℕ_discrete j (i / 8))
    where
      go : Dec (j ≡ i / 8) → get_or (set s (i / 8) changed) j 0 < 256
      go (yes e) = rw (e, get_or-set_same s (i / 8) changed 0 (omega arith)) changed_lt
      go (no n) = rw (get_or-set_other s (i / 8) j changed 0 n) (bytes j)

  same_byte : (k : ℕ) → k / 8 ≡ i / 8 → bit (set s (i / 8) changed) k ≡ differ (bit s k) (alone i k)
  unfolding bit bit_of changed
  same_byte k e =
      rw (e, get_or-set_same s (i / 8) changed 0 (omega arith))
      (bit_of_⊕ (get_or s (i / 8) 0) (2 ^ (7 - i % 8)) (k % 8)
      ∙ ap (differ (bit_of 8 (get_or s (i / 8) 0) (k % 8))) (one_bit (i % 8) (k % 8) (omega arith) (omega arith) ∙ tests (ℕ_discrete k i)))
    where
      tests : Dec (k ≡ i) → alone (i % 8) (k % 8) ≡ alone i k
      tests (yes p) = rw p (simp (eq-eqb (i % 8) (i % 8) refl, eq-eqb i i refl))
      tests (no n) = let m : k % 8 ≢ i % 8 = λ q. n (omega arith) in simp (ne_eqb (k % 8) (i % 8) m, ne_eqb k i n)

  other_byte : (k : ℕ) → k / 8 ≢ i / 8 → bit (set s (i / 8) changed) k ≡ bit s k
  unfolding bit
  other_byte k n = ap (λ x. bit_of 8 x (k % 8)) (get_or-set_other s (i / 8) (k / 8) changed 0 n)

  each : (k : ℕ) → bit (set s (i / 8) changed) k ≡ flipped i (bit s) k % 2
  each k = go (ℕ_discrete (k / 8) (i / 8)) (ℕ_discrete k i)
    where
      go : Dec (k / 8 ≡ i / 8) → Dec (k ≡ i) → bit (set s (i / 8) changed) k ≡ flipped i (bit s) k % 2
      go (yes e) (yes p) =
          same_byte k e ∙ ap (differ (bit s k)) (simp (eq-eqb k i p)) ∙ differ_one (bit s k) (bit_lt s k)
          ∙ omega (arith, ap (flipped i (bit s)) p, flipped_at i (bit s), ap (bit s) p, bit_lt s i)
      go (yes e) (no n) =
          same_byte k e ∙ ap (differ (bit s k)) (simp (ne_eqb k i n)) ∙ differ_zero (bit s k) (bit_lt s k)
          ∙ omega (arith, flipped_off i (bit s) k n, bit_lt s k)
      go (no e) (yes p) = absurd (e (ap (λ x. x / 8) p))
      go (no e) (no n) = other_byte k e ∙ omega (arith, flipped_off i (bit s) k n, bit_lt s k)

  pub flip_byte : set s (i / 8) (get_or s (i / 8) 0 ⊕ 1 * 2 ^ (7 - i % 8) % 256) ≡ pack (length s) (flipped i (bit s))
  unfolding changed
  flip_byte =
      ap (λ m. set s (i / 8) (get_or s (i / 8) 0 ⊕ m)) (shl_exact 1 (7 - i % 8) 8 (lit< tt) (omega arith) ∙ one-mul (2 ^ (7 - i % 8)))
      ∙ is_pack (set s (i / 8) changed) (length s) (flipped i (bit s)) (length-set s (i / 8) changed) below (λ k l. each k)
