-- Laws of wrong bits: none in a line that alters nothing; and, since two words share at most one bit, at most one in every word but that
-- whose back half has the errors.
-- Assumes nothing.
use Rattle.std.specs.Prelude.{◌≡◌, refl, Bool, ◌≢◌, eqb}
use Rattle.std.proofs.Common.{sym, ap, ap₂, ◌∙◌, eq-eqb, ne_eqb}
use Rattle.std.proofs.Math.Bool.{true, false, cond}
use Prim.Native.Nat.{ℕ, zero, suc, ◌+◌, ◌-◌, ◌*◌, ◌/◌, ◌%◌, ◌<◌, ◌≤◌}
use native.Mathlib.Omega.{arith}
use Rattle.std.proofs.Math.Decide.{ℕ_discrete, dec_lt}
use Rattle.bits.specs.Count.{count, differs, distance}
use Rattle.bits.proofs.CountLaws.{count_ext, count_none, count_one, count_split, differs_same, differs_le, distance_none}
use Rattle.bits.specs.Xor.{◌⊕◌}
use Rattle.pair_spec.specs.Rows.{RowBits, front_bit, back_bit, word_of}
use Rattle.pair_spec.specs.RowLaws.{Place, zeros, before, own}
use Rattle.pair_spec.proofs.RowLaws.{xor_16, xor_back, other_pair, word_start, word_front, word_back, place}
use Rattle.pair_spec.specs.Promise.{wrong_bits}
use Rattle.line_spec.specs.Runs.{WordErrors, Errors}

-- Where all rows below n agree, so do all words, ..
pub same_words : (S W : RowBits) (n : ℕ) → ((Q C a c : ℕ) → Q < n → C < 8 → a < 16 → c < 16 → W Q C a c ≡ S Q C a c)
    → (R r k : ℕ) → R < n → r < 16 → k < 256 → word_of W R r k ≡ word_of S R r k
same_words S W n agree R r k lR lr lk = go (place R r k lr lk)
  where
    go : Place R r k → word_of W R r k ≡ word_of S R r k
    go (zeros m is) = is W ∙ sym (is S)
    go (before Q C a c m lo hi lC la lc is) = is W ∙ agree Q C a c (omega arith) lC la lc ∙ sym (is S)
    go (own C c m lC lc is) = is W ∙ agree R C r c lR lC lr lc ∙ sym (is S)

-- .. and no word has a wrong bit.
pub none_wrong : (S W : RowBits) (n : ℕ) → ((Q C a c : ℕ) → Q < n → C < 8 → a < 16 → c < 16 → W Q C a c ≡ S Q C a c)
    → (R r : ℕ) → R < n → r < 16 → wrong_bits S W R r ≡ 0
unfolding wrong_bits
none_wrong S W n agree R r lR lr = distance_none 256 (word_of W R r) (word_of S R r) (λ k l. same_words S W n agree R r k lR lr l)

-- A word that may differ at one place alone.
one_place : (x y : ℕ → ℕ) (i : ℕ) → i < 256 → ((k : ℕ) → k < 256 → k ≢ i → x k ≡ y k) → distance 256 x y ≤ 1
unfolding distance
one_place x y i l same =
    omega (
      arith,
      count_one 256 i (λ k. differs (x k) (y k)) l (λ k lk ne. differs_same (x k) (y k) (same k lk ne)),
      differs_le (x i) (y i),
    )

-- ---- errors in the back half of one word

module _ {S W : RowBits} {n : ℕ} (w : WordErrors n) (errors : Errors S W n w) where
  -- Its front half is right.
  pub errors_front : (k : ℕ) → k < 128 → word_of W w.R w.r k ≡ word_of S w.R w.r k
  errors_front k l = go (place w.R w.r k w.bit_row_lem (omega arith))
    where
      go : Place w.R w.r k → word_of W w.R w.r k ≡ word_of S w.R w.r k
      go (zeros m is) = is W ∙ sym (is S)
      go (before Q C a c m lo hi lC la lc is) =
          is W ∙ errors.right Q C a c (omega (arith, w.row)) lC la lc (λ q s. omega arith) ∙ sym (is S)
      go (own C c m lC lc is) = absurd (omega arith)

  -- Its wrong bits are the errors, ..
  pub errors_own : wrong_bits S W w.R w.r ≡ count 128 w.at
  unfolding wrong_bits distance
  errors_own =
      omega (
        arith,
        count_split 128 128 wrong,
        count_none 128 wrong (λ k l. differs_same _ _ (errors_front k l)),
        count_ext 128 (λ k. wrong (128 + k)) w.at errors.wrong,
      )
    where
      wrong : ℕ → ℕ
      wrong k = differs (word_of W w.R w.r k) (word_of S w.R w.r k)

  -- .. and every other word (Q, s) shares at most one bit with its back half, that of row R, bit row r and column s: so it has at most one.
  pub errors_other : (Q s : ℕ) → Q < n → s < 16 → (Q ≡ w.R → s ≡ w.r → ⊥) → wrong_bits S W Q s ≤ 1
  unfolding wrong_bits front_bit back_bit
  errors_other Q s lQ ls off =
      one_place (word_of W Q s) (word_of S Q s) shared (omega arith) (λ k lk ne. at k lk ne (dec_lt k 128) (dec_lt Q 20))
    where
      shared : ℕ
      shared = (16 * ((w.R + 20 - (Q ⊕ 1)) / 2) + (w.r ⊕ s)) % 128

      is : (k Q R x : ℕ) → k < 128 → 20 ≤ Q → Q - 20 + 2 * (k / 16) ≡ R → x ≡ k % 16 → k ≡ (16 * ((R + 20 - Q) / 2) + x) % 128
      is k Q R x l m q u = omega arith

      at : (k : ℕ) → k < 256 → k ≢ shared → Dec (k < 128) → Dec (Q < 20) → word_of W Q s k ≡ word_of S Q s k
      at k lk ne (yes l) (yes m) = word_start W Q s k l m ∙ sym (word_start S Q s k l m)
      at k lk ne (yes l) (no m) =
          let high : 20 ≤ Q = omega arith in
          word_front W Q s k l high
          ∙ errors.right ((Q ⊕ 1) - 20 + 2 * (k / 16)) (k / 16) ((k % 16) ⊕ s) s (omega (arith, other_pair Q)) (omega arith)
          (xor_16 (k % 16) s (omega arith) ls) ls
          (λ q u. ne (is k (Q ⊕ 1) w.R (w.r ⊕ s) l (omega (arith, other_pair Q)) q (ap (λ x. x ⊕ s) (sym u) ∙ xor_back (k % 16) s)))
          ∙ sym (word_front S Q s k l high)
      at k lk ne (no l) m =
          let low : 128 ≤ k = omega arith in
          word_back W Q s k low
          ∙ errors.right Q ((k - 128) / 16) s ((k % 16) ⊕ s) lQ (omega arith) ls (xor_16 (k % 16) s (omega arith) ls) off
          ∙ sym (word_back S Q s k low)

  -- So where a bound of at least one holds of that word, it holds of all.
  pub errors_most : (b Q s : ℕ) → 1 ≤ b → Q < n → s < 16 → (Q ≡ w.R → s ≡ w.r → count 128 w.at ≤ b) → wrong_bits S W Q s ≤ b
  errors_most b Q s lb lQ ls most = go (ℕ_discrete Q w.R) (ℕ_discrete s w.r)
    where
      go : Dec (Q ≡ w.R) → Dec (s ≡ w.r) → wrong_bits S W Q s ≤ b
      go (yes q) (yes u) = omega (arith, ap₂ (wrong_bits S W) q u, errors_own, most q u)
      go (no q) d = omega (arith, errors_other Q s lQ ls (λ x y. q x))
      go (yes q) (no u) = omega (arith, errors_other Q s lQ ls (λ x y. u y))

-- ---- bits with errors put in

-- The bits S with these errors.
unfoldable pub with_errors : {n : ℕ} → RowBits → WordErrors n → RowBits
with_errors S w Q C s c = cond (eqb (16 * Q + s) (16 * w.R + w.r)) (differs (S Q C s c) (w.at (16 * C + (c ⊕ s)))) (S Q C s c)

differs_twice : (a b : ℕ) → a < 2 → b < 2 → differs (differs a b) a ≡ b
unfolding differs
differs_twice zero zero la lb = refl
differs_twice zero (suc zero) la lb = refl
differs_twice (suc zero) zero la lb = refl
differs_twice (suc zero) (suc zero) la lb = refl
differs_twice zero (suc (suc b)) la lb = absurd (omega arith)
differs_twice (suc zero) (suc (suc b)) la lb = absurd (omega arith)
differs_twice (suc (suc a)) b la lb = absurd (omega arith)

module _ {n : ℕ} (S : RowBits) (w : WordErrors n) where
  pub with_bit : (Q C s c : ℕ) → S Q C s c < 2 → with_errors S w Q C s c < 2
  unfolding with_errors
  with_bit Q C s c b = go (eqb (16 * Q + s) (16 * w.R + w.r))
    where
      go : (t : Bool) → cond t (differs (S Q C s c) (w.at (16 * C + (c ⊕ s)))) (S Q C s c) < 2
      go true = omega (arith, differs_le (S Q C s c) (w.at (16 * C + (c ⊕ s))))
      go false = b

  -- Rows that are these, where it counts, have the errors.
  pub with_errors_lem : (W : RowBits) → ((Q C s c : ℕ) → Q < n → C < 8 → s < 16 → c < 16 → S Q C s c < 2)
      → ((Q C s c : ℕ) → Q < n → C < 8 → s < 16 → c < 16 → W Q C s c ≡ with_errors S w Q C s c) → Errors S W n w
  unfolding with_errors back_bit
  with_errors_lem W bits is = record { wrong = wrong; right = right }
    where
      right : (Q D s d : ℕ) → Q < n → D < 8 → s < 16 → d < 16 → (Q ≡ w.R → s ≡ w.r → ⊥) → W Q D s d ≡ S Q D s d
      right Q D s d lQ lD ls ld off =
          is Q D s d lQ lD ls ld ∙ simp (ne_eqb (16 * Q + s) (16 * w.R + w.r) (λ e. off (omega (arith, w.bit_row_lem)) (omega (arith, w.bit_row_lem))))

      wrong : (k : ℕ) → k < 128 → differs (word_of W w.R w.r (128 + k)) (word_of S w.R w.r (128 + k)) ≡ w.at k
      wrong k l =
          let low : 128 ≤ 128 + k = omega arith in
          let C = (128 + k - 128) / 16 in
          let lC : (128 + k - 128) / 16 < 8 = omega arith in
          let c = ((128 + k) % 16) ⊕ w.r in
          let lc : ((128 + k) % 16) ⊕ w.r < 16 = xor_16 ((128 + k) % 16) w.r (omega arith) w.bit_row_lem in
          let b = S w.R C w.r c in
          ap₂ differs
          (word_back W w.R w.r (128 + k) low ∙ is w.R C w.r c w.row lC w.bit_row_lem lc
          ∙ simp (eq-eqb (16 * w.R + w.r) (16 * w.R + w.r) refl))
          (word_back S w.R w.r (128 + k) low)
          ∙ ap (λ x. differs (differs b (w.at x)) b) (ap (λ x. 16 * C + x) (xor_back ((128 + k) % 16) w.r) ∙ omega arith)
          ∙ differs_twice b (w.at k) (bits w.R C w.r c w.row lC w.bit_row_lem lc) (w.bits k l)
