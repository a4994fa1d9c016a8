-- Laws of specs/Dirty.antt.
-- Assumes nothing.
use Rattle.std.specs.Prelude.{◌≡◌, refl, List, ℕ, zero, suc, ◌+◌, ◌-◌, ◌*◌, ◌/◌, ◌%◌, ◌^◌, ◌<◌, ◌≤◌, get_or}
use Rattle.std.proofs.Common.{sym, ap₂, ◌∙◌, zero-mul, one-mul, arith, below_more}
use Rattle.std.proofs.Math.Path.{ap}
use Rattle.std.proofs.Math.Decide.{dec_lt}
use Rattle.std.specs.Int.Bits.{bit_or}
use Rattle.std.proofs.lemmas.Nat.{or_shr, or_mod, shr_le}
use Rattle.bits.specs.Bits.{bit_of}
use Rattle.bits.proofs.BitLaws.{bit_of_lt, bit_of_equal}
use Rattle.bits.proofs.CountLaws.{count_ext}
use Rattle.bits.proofs.XorLaws.{xor_sum_ext, xor_sum_lt}
use Rattle.gf256.specs.Field.{cube, ◌·◌}
use Rattle.gf256.proofs.PowerLaws.{·_lt}
use Rattle.word_spec.specs.CodeWord.{Word, parity, CodeWord}
use Rattle.word_spec.proofs.Distance.{locator_lt}
use Rattle.word_spec.proofs.RepairLaws.{Bits}
use Rattle.word_spec.specs.Syndromes.{locator, S1, S3}
use Rattle.word_spec.proofs.SyndromeLaws.{code_S1, code_S3, zero_code}
use Rattle.gathering_spec.specs.Sums.{Gathered, Parities}
use Rattle.gathering_spec.specs.Dirty.{Dirty, Joining}

-- ---- words that agree

module _ {f g : ℕ → Word} (same : (w k : ℕ) → w < 32 → k < 256 → f w k ≡ g w k) where
  pub gathered_same : {s : List ℕ} → Gathered f s → Gathered g s
  unfolding S1 S3
  gathered_same h =
      record {
        first = λ w i lw li. h.first w i lw li
            ∙ ap (λ u. u / 2 ^ i % 2) (xor_sum_ext 256 (λ k. f w k * locator k) (λ k. g w k * locator k) (λ k l. ap (λ u. u * locator k) (same w k lw l)));
        third = λ w i lw li. h.third w i lw li
            ∙ ap (λ u. u / 2 ^ i % 2)
            (xor_sum_ext 256 (λ k. f w k * cube (locator k)) (λ k. g w k * cube (locator k)) (λ k l. ap (λ u. u * cube (locator k)) (same w k lw l)));
      }

  pub parities_same : {p : ℕ} → Parities f p → Parities g p
  unfolding parity
  parities_same h = record { parity_of = λ w lw. h.parity_of w lw ∙ ap (λ u. u % 2) (count_ext 256 (f w) (g w) (λ k l. same w k lw l)) }

-- ---- zero exactly for code words

pub zero_digit : (k : ℕ) → 0 / 2 ^ k % 2 ≡ 0
zero_digit k = let o : 0 / 2 ^ k ≡ 0 = omega (arith, shr_le 0 k) in ap (λ u. u % 2) o

digits : (v : ℕ) → v < 256 → ((i : ℕ) → i < 8 → v / 2 ^ i % 2 ≡ 0) → v ≡ 0
unfolding bit_of
digits v l z = bit_of_equal 8 v 0 l (omega arith) (λ i li. z (8 - 1 - i) (omega arith) ∙ sym (zero_digit (8 - 1 - i)))

taken_lt : (b v : ℕ) → b < 2 → v < 256 → b * v < 256
taken_lt zero v l m = rw (zero-mul v) (omega arith)
taken_lt (suc zero) v l m = rw (one-mul v) m
taken_lt (suc (suc b)) v l m = absurd (omega arith)

module _ (w : Word) (b : Bits w) where
  pub S1_lt : S1 w < 256
  unfolding S1
  S1_lt = xor_sum_lt 8 256 (λ k. w k * locator k) (λ k l. taken_lt (w k) (locator k) (b k l) (locator_lt k l)) (omega arith)

  pub S3_lt : S3 w < 256
  unfolding S3 cube
  S3_lt =
      xor_sum_lt 8 256 (λ k. w k * cube (locator k)) (λ k l. taken_lt (w k) (cube (locator k)) (b k l) (·_lt (locator k) (locator k · locator k))) (omega arith)

module _ {words : ℕ → Word} (bits : (w : ℕ) → Bits (words w)) {t : List ℕ} {q : ℕ} (a : Gathered words t) (o : Parities words q) (w : ℕ) (lw : w < 32) where
  pub clean_code : ((i : ℕ) → i < 16 → bit_of 32 (get_or t i 0) w ≡ 0) → bit_of 32 q w ≡ 0 → CodeWord (words w)
  clean_code z e =
      zero_code (words w) (bits w) (digits (S1 (words w)) (S1_lt (words w) (bits w)) (λ i l. sym (a.first w i lw l) ∙ z i (omega arith)))
      (digits (S3 (words w)) (S3_lt (words w) (bits w)) (λ i l. sym (a.third w i lw l) ∙ z (8 + i) (omega arith)))
      (sym (o.parity_of w lw) ∙ e)

  -- and the other way.
  pub code_clean : CodeWord (words w) → ((i : ℕ) → i < 16 → bit_of 32 (get_or t i 0) w ≡ 0) × (bit_of 32 q w ≡ 0)
  code_clean c = ((λ i l. go i l (dec_lt i 8)), o.parity_of w lw ∙ c.even)
    where
      go : (i : ℕ) → i < 16 → Dec (i < 8) → bit_of 32 (get_or t i 0) w ≡ 0
      go i l (yes m) = a.first w i lw m ∙ ap (λ u. u / 2 ^ i % 2) (code_S1 (words w) c) ∙ zero_digit i
      go i l (no m) =
          let e : 8 + (i - 8) ≡ i = omega arith in
          ap (λ n. bit_of 32 (get_or t n 0) w) (sym e) ∙ a.third w (i - 8) lw (omega arith) ∙ ap (λ u. u / 2 ^ (i - 8) % 2) (code_S3 (words w) c)
          ∙ zero_digit (i - 8)

-- ---- the loop that brings all together: none / more / done

bit_of_or : (a b w : ℕ) → bit_of 32 (bit_or a b) w ≡ bit_or (bit_of 32 a w) (bit_of 32 b w)
unfolding bit_of
bit_of_or a b w = ap (λ u. u % 2) (or_shr a b (32 - 1 - w)) ∙ or_mod (a / 2 ^ (32 - 1 - w)) (b / 2 ^ (32 - 1 - w)) 1

or_both : (a b : ℕ) → a < 2 → b < 2 → bit_or a b ≡ 0 → (a ≡ 0) × (b ≡ 0)
or_both zero zero la lb e = (refl, refl)
or_both zero (suc zero) la lb e = absurd (omega (arith, e))
or_both (suc zero) zero la lb e = absurd (omega (arith, e))
or_both (suc zero) (suc zero) la lb e = absurd (omega (arith, e))
or_both zero (suc (suc b)) la lb e = absurd (omega arith)
or_both (suc zero) (suc (suc b)) la lb e = absurd (omega arith)
or_both (suc (suc a)) b la lb e = absurd (omega arith)

pub joining_none : (q : ℕ) (t : List ℕ) → Joining q t 0 q
joining_none q t = record { upto = omega arith; clear = λ w e. (e, λ i l. absurd (omega arith)); stays = λ w e z. e }

pub joining_more : {q : ℕ} {t : List ℕ} {k acc : ℕ} → Joining q t k acc → k < 16 → Joining q t (k + 1) (bit_or acc (get_or t k 0))
joining_more {q} {t} {k} {acc} j l =
    record {
      upto = omega arith;
      clear = λ w e. let b = both w e in ((j.clear w b.0).0, upto_next w (j.clear w b.0).1 b.1);
      stays = λ w e z. bit_of_or acc (get_or t k 0) w ∙ ap₂ bit_or (j.stays w e (λ i li. z i (omega arith))) (z k (omega arith));
    }
  where
    both : (w : ℕ) → bit_of 32 (bit_or acc (get_or t k 0)) w ≡ 0 → (bit_of 32 acc w ≡ 0) × (bit_of 32 (get_or t k 0) w ≡ 0)
    both w e = or_both (bit_of 32 acc w) (bit_of 32 (get_or t k 0) w) (bit_of_lt 32 acc w) (bit_of_lt 32 (get_or t k 0) w) (sym (bit_of_or acc (get_or t k 0) w) ∙ e)

    upto_next : (w : ℕ) → ((i : ℕ) → i < k → bit_of 32 (get_or t i 0) w ≡ 0) → bit_of 32 (get_or t k 0) w ≡ 0 → (i : ℕ) → i < k + 1 → bit_of 32 (get_or t i 0) w ≡ 0
    upto_next w z e = below_more (λ i. bit_of 32 (get_or t i 0) w ≡ 0) k z e

pub dirty_of : {words : ℕ → Word} {t : List ℕ} {q acc : ℕ} → ((w : ℕ) → Bits (words w)) → Gathered words t → Parities words q → Joining q t 16 acc
    → Dirty words acc
dirty_of bits a o j =
    record {
      clean = λ w lw e. clean_code bits a o w lw (j.clear w e).1 (j.clear w e).0;
      dirty = λ w lw c. let z = code_clean bits a o w lw c in j.stays w z.1 z.0;
    }

pub joining_done : {q k acc : ℕ} {t : List ℕ} → Joining q t k acc → 16 ≤ k → Joining q t 16 acc
joining_done {q} {k} {acc} {t} j l = let e : k ≡ 16 = omega (arith, j.upto) in rw e at j

pub ruleset joining = (joining_none, joining_more, joining_done)
