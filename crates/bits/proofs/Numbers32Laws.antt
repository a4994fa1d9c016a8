-- Laws of numbers of 32 bits: written ones are read back, and what stands behind them does not matter.
-- Assumes nothing.
use Rattle.std.specs.Prelude.{◌≡◌, refl, List, ◌++◌, ℕ, zero, suc, ◌+◌, ◌*◌, ◌/◌, ◌%◌, ◌^◌, ◌<◌, get_or, take, drop}
use Rattle.std.specs.Int.{w32, from_be_bytes, to_be_bytes}
use Rattle.std.specs.Simd.{first_chunks}
use Rattle.std.proofs.Common.{sym, ap, ◌∙◌, add-zero, div-one, div-add-mod', mod-eq_of_lt, get_or-take, get_or-drop, drop-drop}
use Rattle.std.proofs.Math.Nat.{div-div-eq-div-mul}
use native.Mathlib.Omega.{arith}
use Rattle.std.proofs.Math.ListN.{length, get_or-append}
use Rattle.bits.specs.Lists.{tabulate}
use Rattle.bits.specs.ListLaws.{length_tabulate, get_d_tabulate}
use Rattle.bits.specs.Numbers32.{number32, byte32, bytes32}

-- A number of four bytes is one of 32 bits.
pub number_below : (bytes : List ℕ) (k : ℕ) → ((i : ℕ) → get_or bytes i 0 < 256) → number32 bytes k < 2 ^ 32
unfolding number32
number_below bytes k small = omega (arith, small (4 * k), small (4 * k + 1), small (4 * k + 2), small (4 * k + 3))

-- A number as code reads it, of the k-th four bytes,
four_bytes : (m k : ℕ) (xs : List ℕ) (d : List ℕ) → k < m → get_or (first_chunks 4 m xs) k d ≡ take 4 (drop (4 * k) xs)
four_bytes zero k xs d l = absurd (omega arith)
four_bytes (suc m) zero xs d l = refl
four_bytes (suc m) (suc k) xs d l =
    let e : 4 + 4 * k ≡ 4 * suc k = omega arith in
    four_bytes m k (drop 4 xs) d (omega arith) ∙ ap (take 4) (drop-drop (4 * k) 4 xs ∙ ap (λ i. drop i xs) e)

pub number_read : (bytes : List ℕ) (m k : ℕ) (d : List ℕ) → k < m → from_be_bytes w32 (get_or (first_chunks 4 m bytes) k d) ≡ number32 bytes k
unfolding number32
number_read bytes m k d l =
    let at : (j : ℕ) → j < 4 → get_or (take 4 (drop (4 * k) bytes)) j 0 ≡ get_or bytes (4 * k + j) 0 =
    (λ j lj. get_or-take 4 (drop (4 * k) bytes) j 0 lj ∙ get_or-drop (4 * k) bytes j 0)
    in
    rw (four_bytes m k bytes d l, at 0 (omega arith), at 1 (omega arith), at 2 (omega arith), at 3 (omega arith), add-zero (4 * k)) (omega arith)

-- and the bytes of one as code writes them.
pub bytes_written : (numbers : List ℕ) (k x : ℕ) → x ≡ get_or numbers k 0
    → to_be_bytes w32 x ≡ tabulate 4 (λ i. byte32 (get_or numbers ((k * 4 + i) / 4) 0) ((k * 4 + i) % 4))
unfolding tabulate byte32
bytes_written numbers k x e =
    let d0 : (k * 4 + 0) / 4 ≡ k = omega arith in
    let d1 : (k * 4 + 1) / 4 ≡ k = omega arith in
    let d2 : (k * 4 + 2) / 4 ≡ k = omega arith in
    let d3 : (k * 4 + 3) / 4 ≡ k = omega arith in
    let m0 : (k * 4 + 0) % 4 ≡ 0 = omega arith in
    let m1 : (k * 4 + 1) % 4 ≡ 1 = omega arith in
    let m2 : (k * 4 + 2) % 4 ≡ 2 = omega arith in
    let m3 : (k * 4 + 3) % 4 ≡ 3 = omega arith in
    rw (d0, d1, d2, d3, m0, m1, m2, m3, e, div-one (get_or numbers k 0)) refl

-- Buffers with the same four bytes there have the same number.
pub number_same : (bytes more : List ℕ) (k : ℕ) → ((i : ℕ) → i < 4 * k + 4 → get_or bytes i 0 ≡ get_or more i 0) → number32 bytes k ≡ number32 more k
unfolding number32
number_same bytes more k same = rw (same (4 * k) (omega arith), same (4 * k + 1) (omega arith), same (4 * k + 2) (omega arith), same (4 * k + 3) (omega arith))

-- The four bytes of a number make it up again.
number_again : (x : ℕ) → x < 2 ^ 32 → ((byte32 x 0 * 256 + byte32 x 1) * 256 + byte32 x 2) * 256 + byte32 x 3 ≡ x
unfolding byte32
number_again x l =
    let two : x / 256 / 256 ≡ x / 65536 = div-div-eq-div-mul x 256 256 in
    let three : x / 65536 / 256 ≡ x / 16777216 = div-div-eq-div-mul x 65536 256 in
    let top : x / 16777216 < 256 = omega arith in
    let x0 : x / 256 * 256 + x % 256 ≡ x = div-add-mod' x 256 in
    let x1 : x / 65536 * 256 + x / 256 % 256 ≡ x / 256 = ap (λ (q : ℕ). q * 256 + x / 256 % 256) (sym two) ∙ div-add-mod' (x / 256) 256 in
    let x2 : x / 16777216 * 256 + x / 65536 % 256 ≡ x / 65536 = ap (λ (q : ℕ). q * 256 + x / 65536 % 256) (sym three) ∙ div-add-mod' (x / 65536) 256 in
    let x3 : x / 16777216 % 256 ≡ x / 16777216 = mod-eq_of_lt top in
    rw (div-one x, x3) (omega arith)

pub bytes32_length : (numbers : List ℕ) → length (bytes32 numbers) ≡ 4 * length numbers
unfolding bytes32
bytes32_length numbers = length_tabulate (4 * length numbers) (λ i. byte32 (get_or numbers (i / 4) 0) (i % 4))

-- A buffer that was filled with the bytes of numbers.
pub bytes_filled : (numbers d : List ℕ) (n : ℕ) → n ≡ 4 * length numbers → d ≡ tabulate n (λ i. byte32 (get_or numbers (i / 4) 0) (i % 4)) → d ≡ bytes32 numbers
unfolding bytes32
bytes_filled numbers d n en e = e ∙ ap (λ m. tabulate m (λ i. byte32 (get_or numbers (i / 4) 0) (i % 4))) en

module _ (numbers : List ℕ) (k : ℕ) (l : k < length numbers) where
  byte_at : (j : ℕ) → j < 4 → get_or (bytes32 numbers) (4 * k + j) 0 ≡ byte32 (get_or numbers k 0) j
  unfolding bytes32
  byte_at j h =
      let a : (4 * k + j) / 4 ≡ k = omega arith in
      let b : (4 * k + j) % 4 ≡ j = omega arith in
      get_d_tabulate (4 * length numbers) (λ i. byte32 (get_or numbers (i / 4) 0) (i % 4)) (4 * k + j) 0 (omega arith) ∙ rw (a, b)

  byte_at_first : get_or (bytes32 numbers) (4 * k) 0 ≡ byte32 (get_or numbers k 0) 0
  byte_at_first = ap (λ (i : ℕ). get_or (bytes32 numbers) i 0) (sym (add-zero (4 * k))) ∙ byte_at 0 (omega arith)

  -- A written number is read back,
  pub number_written : get_or numbers k 0 < 2 ^ 32 → number32 (bytes32 numbers) k ≡ get_or numbers k 0
  unfolding number32
  number_written small =
      rw (byte_at_first, byte_at 1 (omega arith), byte_at 2 (omega arith), byte_at 3 (omega arith)) (number_again (get_or numbers k 0) small)

  -- whatever stands behind the numbers.
  pub number_in_front : (rest : List ℕ) → get_or numbers k 0 < 2 ^ 32 → number32 (bytes32 numbers ++ rest) k ≡ get_or numbers k 0
  number_in_front rest small =
      number_same (bytes32 numbers ++ rest) (bytes32 numbers) k
      (λ i li. get_or-append (bytes32 numbers) rest 0 i (omega (arith, bytes32_length numbers)))
      ∙ number_written small
