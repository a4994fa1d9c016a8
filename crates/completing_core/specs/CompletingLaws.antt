-- Laws of the words with their check bits: as code makes them, and that they are the completions.
-- Assumes nothing.
use Rattle.std.specs.Prelude.{◌≡◌, refl, List, ℕ, ◌+◌, ◌-◌, ◌<◌, set, replicate}
use Rattle.std.proofs.Common.{sym, ◌∙◌, arith, lt-ltb, le-ltb}
use Rattle.std.proofs.Math.Path.{ap}
use borrow.Rule.Slice.PartMut.{put_mid}
use Rattle.std.specs.Int.Bits.{bit_xor}
use Rattle.std.proofs.Math.ListN.{get_or}
use Rattle.std.proofs.lemmas.List.{get_or-replicate}
use Rattle.bits.specs.Filling.{Filling, fill_part, fill_done}
use Rattle.bits.specs.Lists.{tabulate}
use Rattle.bits.specs.ListLaws.{tabulate_ext}
use Rattle.bits.specs.Xor.{◌⊕◌, xor_sum}
use Rattle.networks_spec.specs.Networks.{network, check_columns}
use Rattle.permutation_core.specs.Stages.{two_transposed}
use Rattle.completing_core.specs.Completing.{half_of, check_numbers, own_number, last_number, check_number, check_row}

-- ---- as code makes them

pub number_none : (last : List ℕ) (own s n : ℕ) → n < 96 → check_number last own s n ≡ 0
unfolding check_number
number_none last own s n l = simp (lt-ltb n 96 l)

pub number_own : (last : List ℕ) (own s r : ℕ) → r < 16 → check_number last own s (96 + r) ≡ own_number (half_of s own) r
unfolding check_number
number_own last own s r l =
    let e : 96 + r - 96 ≡ r = omega arith in
    simp (le-ltb (96 + r) 96 (omega arith), lt-ltb (96 + r) 112 (omega arith), e)

pub number_last : (last : List ℕ) (own s r : ℕ) → check_number last own s (112 + r) ≡ last_number last s r
unfolding check_number
number_last last own s r =
    let e : 112 + r - 112 ≡ r = omega arith in
    simp (le-ltb (112 + r) 96 (omega arith), le-ltb (112 + r) 112 (omega arith), e)

pub check_none : (last : List ℕ) (own s : ℕ) → Filling (check_number last own s) 128 96 (replicate 128 0)
check_none last own s =
    record { upto = omega arith; long = refl; done = λ z k l. get_or-replicate 128 k 0 z (omega arith) ∙ sym (number_none last own s k l) }

pub check_row_lem : (last : List ℕ) (own s x : ℕ) (d ys zs : List ℕ) → Filling (check_number last own s) 128 96 d → x ≡ half_of s own
    → ys ≡ tabulate 16 (own_number x) → zs ≡ tabulate 16 (last_number last s) → put_mid 112 16 (put_mid 96 16 d ys) zs ≡ check_row last own s
unfolding check_row
check_row_lem last own s x d ys zs h ex ey ez =
    fill_done
    (fill_part 16 zs (fill_part 16 ys h (omega arith)
    (ey ∙ tabulate_ext 16 (own_number x) (λ k. check_number last own s (96 + k)) (λ k l. ap (λ u. own_number u k) ex ∙ sym (number_own last own s k l))))
    (omega arith) (ez ∙ tabulate_ext 16 (last_number last s) (λ k. check_number last own s (96 + 16 + k)) (λ k l. sym (number_last last own s k))))
    (omega arith)

-- The numbers of block 7, and that of bit 239.
module _ (sums b : List ℕ) (e : b ≡ network check_columns sums) where
  pub numbers_made : (odd t : ℕ) (r : List ℕ) → t ≡ xor_sum 16 (λ i. get_or b i 0) → r ≡ two_transposed (set b 7 (bit_xor odd t))
      → r ≡ two_transposed (check_numbers sums odd)
  unfolding check_numbers ◌⊕◌
  numbers_made odd t r et er =
      er ∙ ap (λ u. two_transposed (set b 7 (bit_xor odd u))) et
      ∙ ap (λ u. two_transposed (set u 7 (bit_xor odd (xor_sum 16 (λ i. get_or u i 0))))) e

  pub own_first : get_or b 7 0 ≡ get_or (network check_columns sums) 7 0
  own_first = ap (λ u. get_or u 7 0) e
