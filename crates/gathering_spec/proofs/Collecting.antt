-- Laws of specs/Collecting.antt.
-- Assumes nothing.
use Rattle.std.specs.Prelude.{◌≡◌, List, ℕ, ◌+◌, ◌-◌, ◌*◌, ◌/◌, ◌%◌, ◌^◌, ◌<◌, get_or}
use Rattle.std.proofs.Math.Path.{refl, ap}
use Rattle.std.proofs.Common.{◌∙◌}
use native.Mathlib.Omega.{arith}
use Rattle.bits.specs.Bits.{bit_of, from_bits}
use Rattle.bits.proofs.BitLaws.{from_bits_ext, from_bits_bit_of}
use Rattle.word_spec.specs.CodeWord.{Word}
use Rattle.word_spec.proofs.RepairLaws.{Bits}
use Rattle.word_spec.specs.Syndromes.{S1, S3, syndromes_of}
use Rattle.word_spec.specs.declared.Syndromes.{Syndromes}
use Rattle.gathering_spec.specs.Sums.{Gathered, Parities}
use Rattle.gathering_spec.proofs.Dirty.{S1_lt, S3_lt}
use Rattle.gathering_spec.specs.Collecting.{sum_bit, sum_of, S1_in, S3_in, ByWords, Collected, syndromes_in}

-- As code makes them.
module _ (u : List ℕ) (q w x : ℕ) (e : x ≡ get_or u (w % 8) 0) where
  pub syndromes_made : ◌≡◌ {A = Syndromes} (record { s1 = x / 2 ^ (56 - 8 * (w / 8)) % 256; s3 = x / 2 ^ (24 - 8 * (w / 8)) % 256; parity = q / 2 ^ (31 - w) % 2 })
      (syndromes_in u q w)
  unfolding syndromes_in S1_in S3_in
  syndromes_made = rw e refl

pub last_lt : (x : ℕ) → x % 2 < 2
last_lt x = omega arith

eight : (f : ℕ → ℕ) (v : ℕ) → v < 256 → ((k : ℕ) → k < 8 → f k ≡ v / 2 ^ (7 - k) % 2) → from_bits 8 f ≡ v
unfolding bit_of
eight f v l e = from_bits_ext 8 f (bit_of 8 v) (λ k lk. ap (λ u. u % 2) (e k lk)) ∙ from_bits_bit_of 8 v l

module _ {words : ℕ → Word} {t : List ℕ} (bits : (w : ℕ) → Bits (words w)) (a : Gathered words t) (w : ℕ) (l : w < 32) where
  S1_of : sum_of t 0 w ≡ S1 (words w)
  unfolding sum_of sum_bit
  S1_of =
      eight (λ k. bit_of 32 (get_or t (0 + 7 - k) 0) w) (S1 (words w)) (S1_lt (words w) (bits w))
      (λ k lk. let e : 0 + 7 - k ≡ 7 - k = omega arith in ap (λ i. bit_of 32 (get_or t i 0) w) e ∙ a.first w (7 - k) l (omega arith))

  S3_of : sum_of t 8 w ≡ S3 (words w)
  unfolding sum_of sum_bit
  S3_of =
      eight (λ k. bit_of 32 (get_or t (8 + 7 - k) 0) w) (S3 (words w)) (S3_lt (words w) (bits w))
      (λ k lk. let e : 8 + 7 - k ≡ 8 + (7 - k) = omega arith in ap (λ i. bit_of 32 (get_or t i 0) w) e ∙ a.third w (7 - k) l (omega arith))

pub by_words_collected : {words : ℕ → Word} {t u : List ℕ} → ((w : ℕ) → Bits (words w)) → Gathered words t → ByWords t u → Collected words u
by_words_collected bits a n =
    record { first = λ w l. n.first w l ∙ S1_of bits a w l; third = λ w l. n.third w l ∙ S3_of bits a w l }

-- They are the syndromes that the repair of the word goes by.
pub syndromes_collected : {words : ℕ → Word} {u : List ℕ} {q : ℕ} → Collected words u → Parities words q → (w : ℕ) → w < 32
    → syndromes_in u q w ≡ syndromes_of (words w)
unfolding syndromes_in syndromes_of bit_of
syndromes_collected c o w l = rw (c.first w l, c.third w l, o.parity_of w l) refl
