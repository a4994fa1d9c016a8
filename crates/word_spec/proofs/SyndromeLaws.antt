-- Laws of the syndromes: a word is a code word exactly when both are 0 and its parity is even.
-- Assumes nothing.
use Rattle.std.specs.Prelude.{◌≡◌, refl, List, [], ◌∷◌, map, ℕ, suc, ◌-◌, ◌*◌, ◌<◌, ◌≤◌, get_or}
use Rattle.std.proofs.Common.{sym, ap, ap₂, ◌∙◌, mul-zero, arith, lt-ltb, le-ltb}
use Rattle.bits.specs.Xor.{◌⊕◌, xor_sum}
use Rattle.bits.proofs.XorLaws.{zero_⊕, ⊕_zero, xor_sum_ext}
use Rattle.gf256.specs.Linear.{lin, units, lin_linear, lin_lin, lin_map, lin_zero, linear_agree, then, plus, same, Linear}
use Rattle.gf256.specs.Field.{shift_a, a_columns, byte, orbit, ◌·◌, cube}
use Rattle.gf256.proofs.Field.{shift_a_linear, cube_zero, cube_shift_a}
use Rattle.gf256.specs.Tables.{powers}
use Rattle.gf256.proofs.PowerLaws.{powers_first, powers_next}
use Rattle.word_spec.specs.CodeWord.{Word, remainder, parity, CodeWord}
use Rattle.word_spec.proofs.RemainderLaws.{BitsTo, register_shift, shift_columns, evaluated, remainder_lt}
use Rattle.word_spec.specs.Syndromes.{locator, S1, S3, S1_checks, S3_checks}

-- ---- the remainder at a and at a^3

at_a_columns : List ℕ
at_a_columns = 1 ∷ 2 ∷ 4 ∷ 8 ∷ 16 ∷ 32 ∷ 64 ∷ 128 ∷ 29 ∷ 58 ∷ 116 ∷ 232 ∷ 205 ∷ 135 ∷ 19 ∷ 38 ∷ []

at_a : ℕ → ℕ
at_a s = lin at_a_columns s

at_a3_columns : List ℕ
at_a3_columns = 1 ∷ 8 ∷ 64 ∷ 58 ∷ 205 ∷ 38 ∷ 45 ∷ 117 ∷ 143 ∷ 12 ∷ 96 ∷ 39 ∷ 37 ∷ 53 ∷ 181 ∷ 193 ∷ []

at_a3 : ℕ → ℕ
at_a3 s = lin at_a3_columns s

at_a_linear : Linear at_a
unfolding at_a
at_a_linear = lin_linear at_a_columns

at_a3_linear : Linear at_a3
unfolding at_a3
at_a3_linear = lin_linear at_a3_columns

at_a_one : at_a 1 ≡ 1
unfolding at_a at_a_columns lin ◌⊕◌
at_a_one = refl

at_a3_one : at_a3 1 ≡ cube 1
unfolding at_a3 at_a3_columns cube ◌·◌ orbit byte units shift_a a_columns lin ◌⊕◌
at_a3_one = refl

-- g is 0 at a and at a^3: a step of the register is there multiplication by a, and by a^3.
at_a_shift : (s : ℕ) → at_a (register_shift s) ≡ shift_a (at_a s)
unfolding at_a at_a_columns register_shift shift_columns shift_a a_columns lin ◌⊕◌
at_a_shift s =
    lin_lin at_a_columns shift_columns (map (lin at_a_columns) shift_columns) refl s
    ∙ sym (lin_lin a_columns at_a_columns (map (lin at_a_columns) shift_columns) refl s)

shift_a3 : ℕ → ℕ
shift_a3 x = shift_a (shift_a (shift_a x))

shift_a3_linear : Linear shift_a3
unfolding shift_a3
shift_a3_linear = then shift_a_linear (then shift_a_linear shift_a_linear)

at_a3_shift : (s : ℕ) → at_a3 (register_shift s) ≡ shift_a3 (at_a3 s)
unfolding at_a3 at_a3_columns register_shift shift_columns shift_a3 shift_a a_columns lin ◌⊕◌
at_a3_shift s =
    lin_lin at_a3_columns shift_columns (map (lin at_a3_columns) shift_columns) refl s
    ∙ sym (lin_map shift_a3_linear at_a3_columns s)

-- ---- the syndromes as sums over all places, by the step rule of the table of powers

pub locator_entry : (k : ℕ) → k < 255 → locator k ≡ get_or powers (254 - k) 0
unfolding locator
locator_entry k h = simp (lt-ltb k 255 h)

pub locator_end : (k : ℕ) → 255 ≤ k → 0 ≡ locator k
unfolding locator
locator_end k h = simp (le-ltb k 255 h)

-- A sum over the 256 places whose last term is 0 is that over the 255 before.
pub last_zero : (w : Word) (q r : ℕ → ℕ) → q 255 ≡ 0 → ((k : ℕ) → k < 255 → q k ≡ r k)
    → xor_sum 256 (λ k. w k * q k) ≡ xor_sum 255 (λ k. w k * r k)
unfolding xor_sum
last_zero w q r z e =
    ap₂ ◌⊕◌ (xor_sum_ext 255 (λ k. w k * q k) (λ k. w k * r k) (λ k l. ap (λ u. w k * u) (e k l))) (ap (λ u. w 255 * u) z ∙ mul-zero (w 255))
    ∙ ⊕_zero (xor_sum 255 (λ k. w k * r k))

-- The entry that stands for a place, as a sum over the places of a polynomial counts it.
entry_at : (k : ℕ) → k < 255 → locator k ≡ get_or powers (255 - suc k) 0
entry_at k h = let e : 254 - k ≡ 255 - suc k = omega arith in locator_entry k h ∙ ap (λ i. get_or powers i 0) e

S1_is : (w : Word) → BitsTo 255 w → S1 w ≡ at_a (remainder 255 w)
unfolding S1
S1_is w b =
    last_zero w locator (λ k. get_or powers (255 - suc k) 0) (sym (locator_end 255 (omega arith))) entry_at
    ∙ sym
    (evaluated at_a_linear shift_a_linear at_a_shift (λ j. get_or powers j 0) (at_a_one ∙ sym powers_first) 254 powers_next 255 w (omega arith) b)

S3_is : (w : Word) → BitsTo 255 w → S3 w ≡ at_a3 (remainder 255 w)
unfolding S3 shift_a3
S3_is w b =
    last_zero w (λ k. cube (locator k)) (λ k. cube (get_or powers (255 - suc k) 0)) (ap cube (sym (locator_end 255 (omega arith))) ∙ cube_zero)
    (λ k l. ap cube (entry_at k l))
    ∙ sym
    (evaluated at_a3_linear shift_a3_linear at_a3_shift (λ j. cube (get_or powers j 0)) (at_a3_one ∙ ap cube (sym powers_first)) 254
    (λ j l. sym (cube_shift_a (get_or powers j 0)) ∙ ap cube (powers_next j l)) 255 w (omega arith) b)

-- ---- the remainder from its values

back : (s : ℕ) → s < 65536 → lin S1_checks (at_a s) ⊕ lin S3_checks (at_a3 s) ≡ s
unfolding at_a at_a_columns at_a3 at_a3_columns S1_checks S3_checks units lin ◌⊕◌
back s h =
    linear_agree (plus (then at_a_linear (lin_linear S1_checks)) (then at_a3_linear (lin_linear S3_checks))) same 16 refl s h

pub remainder_syndromes : (w : Word) → BitsTo 255 w → remainder 255 w ≡ lin S1_checks (S1 w) ⊕ lin S3_checks (S3 w)
remainder_syndromes w b =
    sym (back (remainder 255 w) (remainder_lt 255 w b)) ∙ ap₂ (λ (x y : ℕ). lin S1_checks x ⊕ lin S3_checks y) (sym (S1_is w b)) (sym (S3_is w b))

-- ---- code words

-- A word is a code word exactly when both syndromes are 0 and its parity is even: both ways.
pub code_S1 : (w : Word) → CodeWord w → S1 w ≡ 0
code_S1 w c = S1_is w (λ k l. c.bits k (omega arith)) ∙ ap at_a c.divisible ∙ at_a_linear.at_zero

pub code_S3 : (w : Word) → CodeWord w → S3 w ≡ 0
code_S3 w c = S3_is w (λ k l. c.bits k (omega arith)) ∙ ap at_a3 c.divisible ∙ at_a3_linear.at_zero

pub zero_code : (w : Word) → BitsTo 256 w → S1 w ≡ 0 → S3 w ≡ 0 → parity w ≡ 0 → CodeWord w
zero_code w b e1 e3 p =
    record {
      bits = b;
      divisible = remainder_syndromes w (λ k l. b k (omega arith)) ∙ ap₂ (λ (x y : ℕ). lin S1_checks x ⊕ lin S3_checks y) e1 e3
          ∙ ap₂ ◌⊕◌ (lin_zero S1_checks) (lin_zero S3_checks) ∙ zero_⊕ 0;
      even = p;
    }
