-- Laws of specs/Field.antt.
-- Assumes nothing.
use Rattle.std.specs.Prelude.{◌≡◌, refl, ◌∷◌, map, ℕ, zero, suc, ◌*◌, ◌/◌, ◌%◌, ◌<◌}
use Rattle.std.proofs.Common.{sym, ap, ap₂, ◌∙◌, mod-lt, zero-lt-suc, add-zero}
use Rattle.bits.specs.Xor.{◌⊕◌}
use Rattle.bits.proofs.XorLaws.{⊕_zero, sums, bit_times_⊕}
use Rattle.gf256.specs.Polynomials.{polynomial_number}
use Rattle.gf256.specs.Powers.{first_factor, times_a}
use Rattle.gf256.specs.Linear.{lin, lin_zero, lin_linear, lin_map, lin_⊕, lin_units, lin_lin, additive, units, Linear}
use Rattle.gf256.specs.Division.{step_linear}
use Rattle.gf256.specs.Field.{a_columns, shift_a, orbit, byte, ◌·◌, cube}

pub times_a_shift_a : (x : ℕ) → x < 256 → times_a x ≡ shift_a x
unfolding times_a first_factor shift_a a_columns lin units polynomial_number ◌⊕◌
times_a_shift_a x h =
    rw (sym (add-zero (x * 2))) (step_linear first_factor a_columns 7 refl refl x 0 h (zero-lt-suc 1) ∙ ⊕_zero (lin a_columns x))

pub shift_a_linear : Linear shift_a
unfolding shift_a
shift_a_linear = lin_linear a_columns

pub byte_linear : Linear byte
unfolding byte
byte_linear = lin_linear (units 8)

pub byte_id : (x : ℕ) → x < 256 → byte x ≡ x
unfolding byte
byte_id x h = lin_units 8 x h

-- ---- maps that commute with a
orbit_map : (f : ℕ → ℕ) → ((y : ℕ) → f (shift_a y) ≡ shift_a (f y)) → (n y : ℕ) → map f (orbit n y) ≡ orbit n (f y)
unfolding orbit
orbit_map f h zero y = refl
orbit_map f h (suc n) y = ap (λ l. f y ∷ l) (orbit_map f h n (shift_a y) ∙ ap (orbit n) (h y))

through : {f : ℕ → ℕ} → Linear f → ((y : ℕ) → f (shift_a y) ≡ shift_a (f y)) → (n x y : ℕ) → f (lin (orbit n y) x) ≡ lin (orbit n (f y)) x
through {f} L h n x y = lin_map L (orbit n y) x ∙ ap (λ l. lin l x) (orbit_map f h n y)

orbit_⊕ : (n x y z : ℕ) → lin (orbit n (y ⊕ z)) x ≡ lin (orbit n y) x ⊕ lin (orbit n z) x
unfolding orbit lin
orbit_⊕ zero x y z = simp sums
orbit_⊕ (suc n) x y z =
    ap₂ ◌⊕◌ (bit_times_⊕ (x % 2) y z (mod-lt x (zero-lt-suc 1)))
    (ap (λ u. lin (orbit n u) (x / 2)) (shift_a_linear.at_sum y z) ∙ orbit_⊕ n (x / 2) (shift_a y) (shift_a z)) ∙ simp sums

pub byte_shift_a : (x : ℕ) → byte (shift_a x) ≡ shift_a x
unfolding byte shift_a a_columns lin units ◌⊕◌
byte_shift_a x = lin_lin (units 8) a_columns a_columns refl x

shift_a_byte : (x : ℕ) → shift_a (byte x) ≡ shift_a x
unfolding byte shift_a a_columns lin units ◌⊕◌
shift_a_byte x = lin_lin a_columns (units 8) a_columns refl x

byte_byte : (x : ℕ) → byte (byte x) ≡ byte x
unfolding byte lin units ◌⊕◌
byte_byte x = lin_lin (units 8) (units 8) (units 8) refl x

pub ·_byte : (x y : ℕ) → x · byte y ≡ x · y
unfolding ◌·◌
·_byte x y = ap (λ u. lin (orbit 8 u) x) (byte_byte y)

pub byte_· : (x y : ℕ) → byte (x · y) ≡ x · y
unfolding ◌·◌
byte_· x y = through byte_linear (λ z. byte_shift_a z ∙ sym (shift_a_byte z)) 8 x (byte y) ∙ ·_byte x y

pub ·_shift_a : (x y : ℕ) → x · shift_a y ≡ shift_a (x · y)
unfolding ◌·◌
·_shift_a x y =
    ap (λ u. lin (orbit 8 u) x) (byte_shift_a y ∙ sym (shift_a_byte y)) ∙ sym (through shift_a_linear (λ z. refl) 8 x (byte y))

pub ·-⊕ : (x y z : ℕ) → x · (y ⊕ z) ≡ x · y ⊕ x · z
unfolding ◌·◌
·-⊕ x y z = ap (λ u. lin (orbit 8 u) x) (byte_linear.at_sum y z) ∙ orbit_⊕ 8 x (byte y) (byte z)

pub ⊕-· : (x y z : ℕ) → (x ⊕ y) · z ≡ x · z ⊕ y · z
unfolding ◌·◌
⊕-· x y z = lin_⊕ (orbit 8 (byte z)) x y

pub zero_· : (y : ℕ) → 0 · y ≡ 0
unfolding ◌·◌
zero_· y = lin_zero (orbit 8 (byte y))

pub ·_one : (x : ℕ) → x · 1 ≡ byte x
unfolding ◌·◌ byte lin units orbit shift_a a_columns ◌⊕◌
·_one x = refl

pub ·_linear : (x : ℕ) → Linear (λ y. x · y)
·_linear x = additive (λ y. x · y) (·-⊕ x)

pub ·_left : (x y z : ℕ) → x · (y · z) ≡ y · (x · z)
unfolding ◌·◌
·_left x y z = through (·_linear x) (·_shift_a x) 8 y (byte z) ∙ ap (λ u. lin (orbit 8 u) y) (·_byte x z ∙ sym (byte_· x z))

pub ·_comm : (x y : ℕ) → x · y ≡ y · x
·_comm x y = sym (·_byte x y) ∙ ap (λ u. x · u) (sym (·_one y)) ∙ ·_left x y 1 ∙ ap (λ u. y · u) (·_one x) ∙ ·_byte y x

pub ·_assoc : (x y z : ℕ) → (x · y) · z ≡ x · (y · z)
·_assoc x y z = ·_comm (x · y) z ∙ ·_left z x y ∙ ap (λ u. x · u) (·_comm z y)

pub shift_a_· : (x y : ℕ) → shift_a x · y ≡ shift_a (x · y)
shift_a_· x y = ·_comm (shift_a x) y ∙ ·_shift_a y x ∙ ap shift_a (·_comm y x)

-- The cube of a times x is a^3 times that of x.
pub cube_shift_a : (x : ℕ) → cube (shift_a x) ≡ shift_a (shift_a (shift_a (cube x)))
unfolding cube
cube_shift_a x = simp (·_shift_a, shift_a_·)

-- ---- a product and its sums, sorted
pub ·_zero : (x : ℕ) → x · 0 ≡ 0
·_zero x = (·_linear x).at_zero

pub ruleset products = (·-⊕, ⊕-·, ·_assoc, ·_comm, ·_left, ·_zero, zero_·, sums)

-- Three elements and their sum.
written_out : (a b c : ℕ) → let d = a ⊕ b ⊕ c in a · a · a ⊕ b · b · b ⊕ c · c · c ⊕ d · d · d ≡ (a ⊕ b) · (b ⊕ c) · (a ⊕ c)
written_out a b c = simp products

pub cubes : (a b c : ℕ) → cube a ⊕ cube b ⊕ cube c ⊕ cube (a ⊕ b ⊕ c) ≡ (a ⊕ b) · (b ⊕ c) · (a ⊕ c)
unfolding cube
cubes = written_out

pub cube_zero : cube 0 ≡ 0
unfolding cube
cube_zero = zero_· (0 · 0)
