-- Laws of interleaving: where each bit goes, each way undoing the other, and either encoder's pairs by themselves.
-- Assumes nothing.
use Rattle.std.specs.Prelude.{◌≡◌, refl, List, ℕ, zero, suc, ◌+◌, ◌*◌, ◌/◌, ◌%◌, ◌<◌, length, get_or}
use Rattle.std.proofs.Math.Path.{sym, ap₂}
use Rattle.std.proofs.Common.{ap, ◌∙◌}
use native.Mathlib.Omega.{arith}
use Rattle.bits.specs.Bits.{bit}
use Rattle.bits.proofs.BitLaws.{bit_lt, length_pack, pack_below, bit_pack_of, pack_ext, pack_bit}
use Rattle.bits.specs.LeastLaws.{least_pair}
use Rattle.interleaver_spec.specs.Positions.{encoder_of, row_of, block_of, bit_row_of, column_of}
use Rattle.interleaver_spec.proofs.PositionLaws.{output_for, output_for_lt, encoder_for, row_for, block_for, bit_row_for, column_for}
use Rattle.interleaver_spec.proofs.PositionLaws.{encoder_of_lt, row_of_lt, block_of_lt, bit_row_of_lt, column_of_lt, for_out}
use Rattle.interleaver_spec.specs.Interleaving.{pairs_bit, pairs_of, source_of, interleaved_bit, interleaved, output_of, apart}

-- ---- a bit among an encoder's pairs

module _ (R C r c : ℕ) (lC : C < 8) (lr : r < 16) (lc : c < 16) where
  pub pairs_bit_lt : R < 42 → pairs_bit R C r c < 86016
  unfolding pairs_bit
  pairs_bit_lt lR = omega arith

  pub pairs_bit_row : pairs_bit R C r c / 2048 ≡ R
  unfolding pairs_bit
  pairs_bit_row = omega arith

  pub pairs_bit_bit_row : pairs_bit R C r c % 2048 / 128 ≡ r
  unfolding pairs_bit
  pairs_bit_bit_row = let m : (2048 * R + 128 * r + 16 * C + c) % 2048 ≡ 128 * r + (16 * C + c) = omega arith in rw m (omega arith)

  pub pairs_bit_block : pairs_bit R C r c % 128 / 16 ≡ C
  unfolding pairs_bit
  pairs_bit_block = let m : (2048 * R + 128 * r + 16 * C + c) % 128 ≡ 16 * C + c = omega arith in rw m (omega arith)

  pub pairs_bit_column : pairs_bit R C r c % 16 ≡ c
  unfolding pairs_bit
  pairs_bit_column = omega arith

-- Row R is row R mod 2 of pair R div 2, and a pair has 4,096 bits.
pub pairs_bit_pair : (R C r c : ℕ) → pairs_bit R C r c ≡ 4096 * (R / 2) + pairs_bit (R % 2) C r c
unfolding pairs_bit
pairs_bit_pair R C r c = omega arith

pub pairs_bit_parts : (m : ℕ) → pairs_bit (m / 2048) (m % 128 / 16) (m % 2048 / 128) (m % 16) ≡ m
unfolding pairs_bit
pairs_bit_parts m = omega arith

-- ---- each output bit comes from one bit of one encoder, and back

module _ (e R C r c : ℕ) (le : e < 2) (lR : R < 42) (lC : C < 8) (lr : r < 16) (lc : c < 16) where
  pub source_for : source_of (output_for e R C r c) ≡ pairs_bit R C r c
  unfolding source_of
  source_for =
      rw (row_for e R C r c le lR lC lr lc, block_for e R C r c le lR lC lr lc, bit_row_for e R C r c le lR lC lr lc, column_for e R C r c le lR lC lr lc)

-- The output bit that comes from bit m of encoder e's pairs, and that it is the only one.
unfoldable pub output_from : ℕ → ℕ → ℕ
output_from e m = output_for e (m / 2048) (m % 128 / 16) (m % 2048 / 128) (m % 16)

from_pairs_bit : (e R C r c : ℕ) → C < 8 → r < 16 → c < 16 → output_from e (pairs_bit R C r c) ≡ output_for e R C r c
unfolding output_from
from_pairs_bit e R C r c lC lr lc =
    rw (pairs_bit_row R C r c lC lr lc, pairs_bit_block R C r c lC lr lc, pairs_bit_bit_row R C r c lC lr lc, pairs_bit_column R C r c lC lr lc)

module _ (n : ℕ) (ln : n < 172032) where
  pub source_of_lt : source_of n < 86016
  unfolding source_of
  source_of_lt =
      pairs_bit_lt (row_of n) (block_of n) (bit_row_of n) (column_of n) (block_of_lt n ln) (bit_row_of_lt n ln) (column_of_lt n ln) (row_of_lt n ln)

  from_source : output_from (encoder_of n) (source_of n) ≡ n
  unfolding source_of
  from_source =
      from_pairs_bit (encoder_of n) (row_of n) (block_of n) (bit_row_of n) (column_of n) (block_of_lt n ln) (bit_row_of_lt n ln) (column_of_lt n ln)
      ∙ for_out n ln

module _ (e m : ℕ) (le : e < 2) (lm : m < 86016) where
  from_lt : output_from e m < 172032
  unfolding output_from
  from_lt = output_for_lt e (m / 2048) (m % 128 / 16) (m % 2048 / 128) (m % 16) le (omega arith) (omega arith) (omega arith) (omega arith)

  encoder_from : encoder_of (output_from e m) ≡ e
  unfolding output_from
  encoder_from =
      encoder_for e (m / 2048) (m % 128 / 16) (m % 2048 / 128) (m % 16) le (omega arith) (omega arith) (omega arith) (omega arith)

  source_from : source_of (output_from e m) ≡ m
  unfolding output_from
  source_from =
      source_for e (m / 2048) (m % 128 / 16) (m % 2048 / 128) (m % 16) le (omega arith) (omega arith) (omega arith) (omega arith)
      ∙ pairs_bit_parts m

  pub output_of_is : output_of e m ≡ output_from e m
  unfolding output_of
  output_of_is =
      least_pair 172032 encoder_of source_of e m (output_from e m) from_lt encoder_from source_from
      (λ n ln p q. sym (from_source n ln) ∙ ap₂ output_from p q)

  pub output_of_lt : output_of e m < 172032
  output_of_lt = rw output_of_is from_lt

  pub encoder_output : encoder_of (output_of e m) ≡ e
  encoder_output = ap encoder_of output_of_is ∙ encoder_from

  pub source_output : source_of (output_of e m) ≡ m
  source_output = ap source_of output_of_is ∙ source_from

pub output_source : (n : ℕ) → n < 172032 → output_of (encoder_of n) (source_of n) ≡ n
output_source n ln = output_of_is (encoder_of n) (source_of n) (encoder_of_lt n ln) (source_of_lt n ln) ∙ from_source n ln

pub output_for_lem : (e R C r c : ℕ) → e < 2 → R < 42 → C < 8 → r < 16 → c < 16 → output_of e (pairs_bit R C r c) ≡ output_for e R C r c
output_for_lem e R C r c le lR lC lr lc =
    output_of_is e (pairs_bit R C r c) le (pairs_bit_lt R C r c lC lr lc lR) ∙ from_pairs_bit e R C r c lC lr lc

-- ---- the bits of a buffer, and of pairs

pub length_interleaved : (pairs0 pairs1 : List ℕ) → length (interleaved pairs0 pairs1) ≡ 21504
unfolding interleaved
length_interleaved pairs0 pairs1 = length_pack 21504 (interleaved_bit pairs0 pairs1)

pub interleaved_below : (pairs0 pairs1 : List ℕ) (j : ℕ) → get_or (interleaved pairs0 pairs1) j 0 < 256
unfolding interleaved
interleaved_below pairs0 pairs1 = pack_below 21504 (interleaved_bit pairs0 pairs1)

pub length_apart : (bits : List ℕ) (e : ℕ) → length (apart bits e) ≡ 10752
unfolding apart
length_apart bits e = length_pack 10752 (λ m. bit bits (output_of e m))

pub apart_below : (bits : List ℕ) (e j : ℕ) → get_or (apart bits e) j 0 < 256
unfolding apart
apart_below bits e = pack_below 10752 (λ m. bit bits (output_of e m))

-- Output bit n is the bit at the five functions of n.
pub bit_interleaved : (pairs0 pairs1 : List ℕ) (n : ℕ) → n < 172032
    → bit (interleaved pairs0 pairs1) n ≡ bit (pairs_of pairs0 pairs1 (encoder_of n)) (pairs_bit (row_of n) (block_of n) (bit_row_of n) (column_of n))
unfolding interleaved interleaved_bit source_of
bit_interleaved pairs0 pairs1 n ln =
    bit_pack_of 21504 (interleaved_bit pairs0 pairs1) (λ k. bit_lt (pairs_of pairs0 pairs1 (encoder_of k)) (source_of k)) n (omega arith)

-- Bit m of encoder e's pairs is the output bit that comes from there.
pub bit_apart : (bits : List ℕ) (e m : ℕ) → m < 86016 → bit (apart bits e) m ≡ bit bits (output_of e m)
unfolding apart
bit_apart bits e m lm = bit_pack_of 10752 (λ k. bit bits (output_of e k)) (λ k. bit_lt bits (output_of e k)) m (omega arith)

-- The same by R, C, r and c.
module _ (e R C r c : ℕ) (le : e < 2) (lR : R < 42) (lC : C < 8) (lr : r < 16) (lc : c < 16) where
  pub bit_interleaved_for : (pairs0 pairs1 : List ℕ)
      → bit (interleaved pairs0 pairs1) (output_for e R C r c) ≡ bit (pairs_of pairs0 pairs1 e) (pairs_bit R C r c)
  unfolding source_of
  bit_interleaved_for pairs0 pairs1 =
      bit_interleaved pairs0 pairs1 (output_for e R C r c) (output_for_lt e R C r c le lR lC lr lc)
      ∙ ap₂ (λ x y. bit (pairs_of pairs0 pairs1 x) y) (encoder_for e R C r c le lR lC lr lc) (source_for e R C r c le lR lC lr lc)

  pub bit_apart_for : (bits : List ℕ) → bit (apart bits e) (pairs_bit R C r c) ≡ bit bits (output_for e R C r c)
  bit_apart_for bits =
      bit_apart bits e (pairs_bit R C r c) (pairs_bit_lt R C r c lC lr lc lR)
      ∙ ap (bit bits) (output_for_lem e R C r c le lR lC lr lc)

-- ---- each undoes the other

pub pairs_of_each : (f : ℕ → List ℕ) (e : ℕ) → e < 2 → pairs_of (f 0) (f 1) e ≡ f e
unfolding pairs_of
pairs_of_each f zero l = refl
pairs_of_each f (suc zero) l = refl
pairs_of_each f (suc (suc e)) l = absurd (omega arith)

-- Taken apart, an interleaved buffer gives either encoder's pairs back.
pub apart_interleaved : (pairs0 pairs1 : List ℕ) (e : ℕ) → e < 2 → length (pairs_of pairs0 pairs1 e) ≡ 10752
    → ((j : ℕ) → get_or (pairs_of pairs0 pairs1 e) j 0 < 256) → apart (interleaved pairs0 pairs1) e ≡ pairs_of pairs0 pairs1 e
unfolding apart source_of
apart_interleaved pairs0 pairs1 e le long bytes =
    pack_ext 10752 (λ m. bit (interleaved pairs0 pairs1) (output_of e m)) (bit (pairs_of pairs0 pairs1 e))
    (λ m l.
    bit_interleaved pairs0 pairs1 (output_of e m) (output_of_lt e m le (omega arith))
    ∙ ap₂ (λ x y. bit (pairs_of pairs0 pairs1 x) y) (encoder_output e m le (omega arith)) (source_output e m le (omega arith)))
    ∙ pack_bit (pairs_of pairs0 pairs1 e) 10752 long bytes

-- Interleaved, the pairs that a buffer was taken apart into give it back.
pub interleaved_apart : (bits : List ℕ) → length bits ≡ 21504 → ((j : ℕ) → get_or bits j 0 < 256)
    → interleaved (apart bits 0) (apart bits 1) ≡ bits
unfolding interleaved interleaved_bit
interleaved_apart bits long bytes =
    pack_ext 21504 (interleaved_bit (apart bits 0) (apart bits 1)) (bit bits)
    (λ n l.
    let ln : n < 172032 = omega arith in
    ap (λ s. bit s (source_of n)) (pairs_of_each (apart bits) (encoder_of n) (encoder_of_lt n ln))
    ∙ bit_apart bits (encoder_of n) (source_of n) (source_of_lt n ln)
    ∙ ap (bit bits) (output_source n ln))
    ∙ pack_bit bits 21504 long bytes

-- "encoder 0's pairs recovered this way are the same however encoder 1's bits alter, and the reverse": from two buffers that
-- agree at encoder e's places the same pairs of encoder e are recovered.
pub apart_agree : (s t : List ℕ) (e : ℕ) → e < 2 → ((n : ℕ) → n < 172032 → encoder_of n ≡ e → bit s n ≡ bit t n) → apart s e ≡ apart t e
unfolding apart
apart_agree s t e le same =
    pack_ext 10752 (λ m. bit s (output_of e m)) (λ m. bit t (output_of e m))
    (λ m l. same (output_of e m) (output_of_lt e m le (omega arith)) (encoder_output e m le (omega arith)))
