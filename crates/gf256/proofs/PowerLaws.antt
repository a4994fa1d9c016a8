-- Laws of the table of powers: its step rule, and by that rule products by exponents, no zero divisors, and the tables of exponents and of
-- cubes.
-- Assumes nothing.
use Rattle.std.specs.Prelude.{◌≡◌, refl, List, ◌⊎◌, ℕ, zero, suc, ◌+◌, ◌-◌, ◌<◌, ◌≤◌, ltb, get_or}
use Rattle.std.proofs.Common.{sym, ap, ap₂, ◌∙◌, subst, inl, inr, zero-add, arith, ltb→lt}
use Rattle.bits.specs.Tests.{each, agree}
use Rattle.bits.specs.Xor.{◌⊕◌}
use Rattle.gf256.specs.Polynomials.{polynomial_number, reduce}
use Rattle.gf256.specs.Powers.{first_factor, times_a}
use Rattle.gf256.specs.Linear.{lin, units, lin_lt}
use Rattle.gf256.specs.Field.{shift_a, a_columns, byte, orbit, ◌·◌}
use Rattle.gf256.proofs.Field.{times_a_shift_a, byte_id, byte_·, ·_comm, ·_one}
use Rattle.gf256.specs.Field.{cube}
use Rattle.gf256.proofs.Field.{·_shift_a, shift_a_·, ·_assoc, ·_left, zero_·, cube_zero, cube_shift_a}
use Rattle.gf256.specs.Tables.{powers, logs, cubed}

-- ---- the rule of the table of powers, computed once over all entries

-- "from 1 on, each entry being the one before times a"
pub powers_first : get_or powers 0 0 ≡ 1
unfolding powers
powers_first = refl

pub powers_step : (k : ℕ) → k < 254 → get_or powers (suc k) 0 ≡ times_a (get_or powers k 0)
unfolding powers times_a first_factor reduce polynomial_number ◌⊕◌
powers_step = agree 254 (λ k. get_or powers (suc k) 0) (λ k. times_a (get_or powers k 0)) tt

powers_lt : (k : ℕ) → k < 255 → get_or powers k 0 < 256
unfolding powers
powers_lt k h = ltb→lt (get_or powers k 0) 256 (each 255 (λ i. ltb (get_or powers i 0) 256) tt k h)

-- The step as a linear map.
pub powers_next : (k : ℕ) → k < 254 → shift_a (get_or powers k 0) ≡ get_or powers (suc k) 0
powers_next k h = sym (powers_step k h ∙ times_a_shift_a (get_or powers k 0) (powers_lt k (omega arith)))

-- After the last entry the powers come round: a^255 = 1.
powers_round : shift_a (get_or powers 254 0) ≡ 1
unfolding powers shift_a a_columns lin ◌⊕◌
powers_round = refl

-- ---- each element but 0 is the entry at its exponent

log_lt : (x : ℕ) → x < 256 → get_or logs x 0 < 255
unfolding logs
log_lt x h = ltb→lt (get_or logs x 0) 255 (each 256 (λ i. ltb (get_or logs i 0) 255) tt x h)

power_log : (x : ℕ) → x < 255 → get_or powers (get_or logs (suc x) 0) 0 ≡ suc x
unfolding powers logs
power_log = agree 255 (λ x. get_or powers (get_or logs (suc x) 0) 0) suc tt

pub log_of : (x : ℕ) → 0 < x → x < 256 → (get_or logs x 0 < 255) × (get_or powers (get_or logs x 0) 0 ≡ x)
log_of zero p h = absurd (omega arith)
log_of (suc x) p h = (log_lt (suc x) h, power_log x (omega arith))

-- ---- products by exponents

-- A step in the first exponent is a step in the product.
factor_step : (i j : ℕ) → i < 254 → get_or powers (suc i) 0 · get_or powers j 0 ≡ shift_a (get_or powers i 0 · get_or powers j 0)
factor_step i j h = ap (λ u. u · get_or powers j 0) (sym (powers_next i h)) ∙ shift_a_· (get_or powers i 0) (get_or powers j 0)

-- a^i times a^j is a^(i + j) ..
exponents_add : (i j k : ℕ) → i + j ≡ k → k < 255 → get_or powers i 0 · get_or powers j 0 ≡ get_or powers k 0
exponents_add zero j k e h =
    ap (λ u. u · get_or powers j 0) powers_first ∙ ·_comm 1 (get_or powers j 0) ∙ ·_one (get_or powers j 0)
    ∙ byte_id (get_or powers j 0) (powers_lt j (omega arith)) ∙ ap (λ n. get_or powers n 0) (sym (zero-add j) ∙ e)
exponents_add (suc i) j zero e h = absurd (omega arith)
exponents_add (suc i) j (suc k) e h =
    factor_step i j (omega arith) ∙ ap shift_a (exponents_add i j k (omega arith) (omega arith)) ∙ powers_next k (omega arith)

-- .. and a^255 is 1.
exponents_round : (i j k : ℕ) → i + j ≡ k + 255 → i < 255 → j < 255 → get_or powers i 0 · get_or powers j 0 ≡ get_or powers k 0
exponents_round zero j k e hi hj = absurd (omega arith)
exponents_round (suc i) j zero e hi hj =
    factor_step i j (omega arith) ∙ ap shift_a (exponents_add i j 254 (omega arith) (omega arith)) ∙ powers_round ∙ sym powers_first
exponents_round (suc i) j (suc k) e hi hj =
    factor_step i j (omega arith) ∙ ap shift_a (exponents_round i j k (omega arith) (omega arith) (omega arith)) ∙ powers_next k (omega arith)

-- With the exponents of two elements.
module _ (x y i j : ℕ) (hi : i < 255) (p : get_or powers i 0 ≡ x) (hj : j < 255) (q : get_or powers j 0 ≡ y) where
  pub times_low : i + j < 255 → get_or powers (i + j) 0 ≡ x · y
  times_low h = sym (ap₂ ◌·◌ (sym p) (sym q) ∙ exponents_add i j (i + j) refl h)

  pub times_round : 255 ≤ i + j → get_or powers (i + j - 255) 0 ≡ x · y
  times_round h = sym (ap₂ ◌·◌ (sym p) (sym q) ∙ exponents_round i j (i + j - 255) (omega arith) hi hj)

  pub over_low : j ≤ i → get_or powers (i - j) 0 · y ≡ x
  over_low h = ap (λ u. get_or powers (i - j) 0 · u) (sym q) ∙ exponents_add (i - j) j i (omega arith) hi ∙ p

  pub over_round : i < j → get_or powers (i + 255 - j) 0 · y ≡ x
  over_round h =
      ap (λ u. get_or powers (i + 255 - j) 0 · u) (sym q) ∙ exponents_round (i + 255 - j) j i (omega arith) (omega arith) hj ∙ p

pub over_zero : (x y : ℕ) → x ≡ 0 → 0 · y ≡ x
over_zero x y e = zero_· y ∙ sym e

pub ruleset multiplying = (times_low, times_round)

pub ruleset dividing = (over_low, over_round, over_zero)

-- ---- no zero divisors

-- Each entry has an inverse.
inverse : (i j : ℕ) → i + j ≡ 254 → get_or powers i 0 · shift_a (get_or powers j 0) ≡ 1
inverse i j e =
    ·_shift_a (get_or powers i 0) (get_or powers j 0) ∙ ap shift_a (exponents_add i j 254 e (omega arith)) ∙ powers_round

-- An entry can be divided out.
divide : (i j x : ℕ) → i + j ≡ 254 → x · get_or powers i 0 ≡ 0 → byte x ≡ 0
divide i j x h e =
    let v = shift_a (get_or powers j 0) in
    sym (·_one x) ∙ ap (λ u. x · u) (sym (inverse i j h)) ∙ sym (·_assoc x (get_or powers i 0) v) ∙ ap (λ u. u · v) e ∙ zero_· v

pub no_zero_divisors : (x y : ℕ) → x < 256 → y < 256 → x · y ≡ 0 → (x ≡ 0) ⊎ (y ≡ 0)
no_zero_divisors x zero hx hy e = inr refl
no_zero_divisors x (suc y) hx hy e =
    let k = get_or logs (suc y) 0 in
    inl
    (sym (byte_id x hx)
    ∙ divide k (254 - k) x (omega (arith, log_lt (suc y) hy)) (ap (λ u. x · u) (power_log y (omega arith)) ∙ e))

byte_lt : (x : ℕ) → byte x < 256
unfolding byte units
byte_lt x = lin_lt 8 (units 8) tt x

pub ·_lt : (x y : ℕ) → x · y < 256
·_lt x y = subst (λ u. u < 256) (byte_· x y) (byte_lt (x · y))

-- x is s times some element, unless s is 0.
pub record Over (x s : ℕ) : Type 0 where
  pub value : ℕ
  pub small : value < 256
  pub times : s · value ≡ x

pub over : (x s : ℕ) → x < 256 → 0 < s → s < 256 → Over x s
over x s hx p hs =
    let k = get_or logs s 0 in
    let l = log_of s p hs in
    let v = shift_a (get_or powers (254 - k) 0) in
    record {
      value = x · v;
      small = ·_lt x v;
      times = ·_left s x v ∙ ap (λ u. x · u) (ap (λ u. u · v) (sym l.1) ∙ inverse k (254 - k) (omega (arith, l.0))) ∙ ·_one x ∙ byte_id x hx;
    }

-- ---- cubes

-- The rule of the table of cubes, computed over all of it: a times x has a^3 times the cube of x.
cubed_step : (x : ℕ) → x < 256 → get_or cubed (shift_a x) 0 ≡ shift_a (shift_a (shift_a (get_or cubed x 0)))
unfolding cubed shift_a a_columns lin ◌⊕◌
cubed_step = agree 256 (λ x. get_or cubed (shift_a x) 0) (λ x. shift_a (shift_a (shift_a (get_or cubed x 0)))) tt

cubed_zero : get_or cubed 0 0 ≡ 0
unfolding cubed
cubed_zero = refl

cubed_one : get_or cubed 1 0 ≡ cube 1
unfolding cubed cube ◌·◌ orbit byte units shift_a a_columns lin ◌⊕◌
cubed_one = refl

cubed_power : (k : ℕ) → k < 255 → get_or cubed (get_or powers k 0) 0 ≡ cube (get_or powers k 0)
cubed_power zero h = rw powers_first cubed_one
cubed_power (suc k) h =
    ap (λ u. get_or cubed u 0) (sym (powers_next k (omega arith))) ∙ cubed_step (get_or powers k 0) (powers_lt k (omega arith))
    ∙ ap (λ u. shift_a (shift_a (shift_a u))) (cubed_power k (omega arith)) ∙ sym (cube_shift_a (get_or powers k 0))
    ∙ ap cube (powers_next k (omega arith))

pub cubed_at : (x : ℕ) → x < 256 → get_or cubed x 0 ≡ cube x
cubed_at zero h = cubed_zero ∙ sym cube_zero
cubed_at (suc x) h =
    let e = power_log x (omega arith) in
    ap (λ u. get_or cubed u 0) (sym e) ∙ cubed_power (get_or logs (suc x) 0) (log_lt (suc x) h) ∙ ap cube e

pub cube_in : (t : List ℕ) (x : ℕ) → t ≡ cubed → x < 256 → get_or t x 0 ≡ cube x
cube_in t x e l = ap (λ s. get_or s x 0) e ∙ cubed_at x l
