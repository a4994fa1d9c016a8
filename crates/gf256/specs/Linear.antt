-- Linear maps over GF(2) on numbers read as rows of bits: a list of columns, the first for bit 0. Two maps are compared by
-- their columns, which the checker computes.
-- Assumes nothing.
use Rattle.std.specs.Prelude.{◌≡◌, refl, Bool, true, List, [], ◌∷◌, map, ℕ, zero, suc, ◌+◌, ◌-◌, ◌*◌, ◌/◌, ◌%◌, ◌^◌, ◌<◌, ◌≤◌, T, ltb}
use Rattle.std.proofs.Common.{sym, ap, ap₂, ◌∙◌, mod-lt, zero-lt-suc, pow-suc, div-add-mod', div-lt_iff_lt-mul, add-zero, one-mul, zero-mul, mul-one, arith, ltb→lt, pow_pos}
use Rattle.std.proofs.Math.Arith.{lt-one}
use Rattle.std.specs.Int.Bits.{bit_xor, xor_shifted}
use Rattle.std.proofs.lemmas.Nat.{xor_comm}
use Rattle.bits.specs.Tests.{both, both_left, both_right}
use Rattle.bits.specs.Xor.{◌⊕◌, xor_sum}
use Rattle.bits.proofs.XorLaws.{⊕_lt, ⊕_half, ⊕_mod, zero_⊕, ⊕_self, ⊕_double, ⊕_four, sums, bits_⊕_times}

-- The sum of the columns at the bits of x.
unfoldable pub lin : List ℕ → ℕ → ℕ
lin [] x = 0
lin (c ∷ cs) x = x % 2 * c ⊕ lin cs (x / 2)

pub record Linear (f : ℕ → ℕ) : Type 0 where
  pub at_zero : f 0 ≡ 0
  pub at_sum : (x y : ℕ) → f (x ⊕ y) ≡ f x ⊕ f y

digit : (x : ℕ) → x % 2 < 2
digit x = mod-lt x (zero-lt-suc 1)

pub lin_⊕ : (cs : List ℕ) (x y : ℕ) → lin cs (x ⊕ y) ≡ lin cs x ⊕ lin cs y
unfolding lin
lin_⊕ [] x y = sym (zero_⊕ 0)
lin_⊕ (c ∷ cs) x y =
    ap₂ (λ (b z : ℕ). b * c ⊕ lin cs z) (⊕_mod x y) (⊕_half x y)
    ∙ ap₂ ◌⊕◌ (bits_⊕_times (x % 2) (y % 2) c (digit x) (digit y)) (lin_⊕ cs (x / 2) (y / 2))
    ∙ ⊕_four (x % 2 * c) (y % 2 * c) (lin cs (x / 2)) (lin cs (y / 2))

pub lin_zero : (cs : List ℕ) → lin cs 0 ≡ 0
unfolding lin
lin_zero [] = refl
lin_zero (c ∷ cs) = ap₂ ◌⊕◌ (zero-mul c) (lin_zero cs) ∙ zero_⊕ 0

pub lin_linear : (cs : List ℕ) → Linear (lin cs)
lin_linear cs = record { at_zero = lin_zero cs; at_sum = lin_⊕ cs }

-- A number taken once or not at all goes through a linear map.
pub bit_through : {f : ℕ → ℕ} → Linear f → (b c : ℕ) → b < 2 → f (b * c) ≡ b * f c
bit_through {f} L zero c h = ap f (zero-mul c) ∙ L.at_zero ∙ sym (zero-mul (f c))
bit_through {f} L (suc zero) c h = ap f (one-mul c) ∙ sym (one-mul (f c))
bit_through {f} L (suc (suc b)) c h = absurd (omega arith)

-- A linear map of a sum over places.
pub sum_through : {f : ℕ → ℕ} → Linear f → (n : ℕ) (g : ℕ → ℕ) → f (xor_sum n g) ≡ xor_sum n (λ k. f (g k))
unfolding xor_sum
sum_through L zero g = L.at_zero
sum_through {f} L (suc n) g = L.at_sum (xor_sum n g) (g n) ∙ ap (λ x. x ⊕ f (g n)) (sum_through L n g)

-- A linear map of a linear map.
pub lin_map : {f : ℕ → ℕ} → Linear f → (cs : List ℕ) (x : ℕ) → f (lin cs x) ≡ lin (map f cs) x
unfolding lin
lin_map L [] x = L.at_zero
lin_map L (c ∷ cs) x =
    L.at_sum (x % 2 * c) (lin cs (x / 2)) ∙ ap₂ ◌⊕◌ (bit_through L (x % 2) c (digit x)) (lin_map L cs (x / 2))

-- ---- the columns of the identity

pub double : Linear (λ x. x * 2)
double =
    record {
      at_zero = refl;
      at_sum = λ x y. sym
          (ap₂ ◌⊕◌ (sym (add-zero (x * 2))) (sym (add-zero (y * 2))) ∙ ⊕_double x y 0 0 (zero-lt-suc 1) (zero-lt-suc 1)
          ∙ ap (λ z. (x ⊕ y) * 2 + z) (zero_⊕ 0) ∙ add-zero ((x ⊕ y) * 2));
    }

unfoldable pub units : ℕ → List ℕ
units zero = []
units (suc n) = 1 ∷ map (λ x. x * 2) (units n)

behind : (d q : ℕ) → d < 2 → d * 1 ⊕ q * 2 ≡ q * 2 + d
unfolding ◌⊕◌
behind d q h = ap (λ z. bit_xor z (q * 2)) (mul-one d) ∙ xor_comm d (q * 2) ∙ xor_shifted q 1 d h

pub lin_units : (n x : ℕ) → x < 2 ^ n → lin (units n) x ≡ x
unfolding lin units
lin_units zero x h = sym (lt-one h)
lin_units (suc n) x h =
    ap (λ u. x % 2 * 1 ⊕ u)
    (sym (lin_map double (units n) (x / 2))
    ∙ ap (λ u. u * 2) (lin_units n (x / 2) ((div-lt_iff_lt-mul (zero-lt-suc 1)).1 (rw (pow-suc 2 n) at h))))
    ∙ behind (x % 2) (x / 2) (digit x) ∙ div-add-mod' x 2

-- The columns of a map of a map, which the checker computes: `lin_lin cs ds es refl`.
pub lin_lin : (cs ds es : List ℕ) → map (lin cs) ds ≡ es → (x : ℕ) → lin cs (lin ds x) ≡ lin es x
lin_lin cs ds es e x = lin_map (lin_linear cs) ds x ∙ ap (λ l. lin l x) e

pub additive : (f : ℕ → ℕ) → ((x y : ℕ) → f (x ⊕ y) ≡ f x ⊕ f y) → Linear f
additive f h = record { at_zero = ap f (sym (zero_⊕ 0)) ∙ h 0 0 ∙ ⊕_self (f 0); at_sum = h }

-- Every column is below a bound: a computed test.
abbrev pub all_below : ℕ → List ℕ → Bool
all_below m [] = true
all_below m (c ∷ cs) = both (ltb c m) (all_below m cs)

bit_lt : (b c m : ℕ) → b < 2 → c < m → b * c < m
bit_lt zero c m h l = rw (zero-mul c) (omega arith)
bit_lt (suc zero) c m h l = rw (one-mul c) l
bit_lt (suc (suc b)) c m h l = absurd (omega arith)

pub lin_lt : (k : ℕ) (cs : List ℕ) → T (all_below (2 ^ k) cs) → (x : ℕ) → lin cs x < 2 ^ k
unfolding lin
lin_lt k [] t x = pow_pos k
lin_lt k (c ∷ cs) t x =
    ⊕_lt k (x % 2 * c) (lin cs (x / 2))
    (bit_lt (x % 2) c (2 ^ k) (digit x) (ltb→lt c (2 ^ k) (both_left (ltb c (2 ^ k)) (all_below (2 ^ k) cs) t)))
    (lin_lt k cs (both_right (ltb c (2 ^ k)) (all_below (2 ^ k) cs) t) (x / 2))

-- Two linear maps that agree on the units agree on all numbers of n bits.
pub linear_agree : {f g : ℕ → ℕ} → Linear f → Linear g → (n : ℕ) → map f (units n) ≡ map g (units n) → (x : ℕ) → x < 2 ^ n → f x ≡ g x
linear_agree {f} {g} F G n e x h =
    ap f (sym (lin_units n x h)) ∙ lin_map F (units n) x ∙ ap (λ l. lin l x) e ∙ sym (lin_map G (units n) x)
    ∙ ap g (lin_units n x h)

pub then : {f g : ℕ → ℕ} → Linear f → Linear g → Linear (λ x. g (f x))
then {f} {g} F G =
    record { at_zero = ap g F.at_zero ∙ G.at_zero; at_sum = λ x y. ap g (F.at_sum x y) ∙ G.at_sum (f x) (f y) }

pub plus : {f g : ℕ → ℕ} → Linear f → Linear g → Linear (λ x. f x ⊕ g x)
plus {f} {g} F G =
    additive (λ x. f x ⊕ g x) (λ x y. ap₂ ◌⊕◌ (F.at_sum x y) (G.at_sum x y) ∙ simp sums)

pub same : Linear (λ x. x)
same = record { at_zero = refl; at_sum = λ x y. refl }

-- A number with its top bit set is the sum of the rest and that bit.
pub lin_top : (cs : List ℕ) (k x : ℕ) → 2 ^ k ≤ x → x < 2 ^ suc k → lin cs x ≡ lin cs (x - 2 ^ k) ⊕ lin cs (2 ^ k)
unfolding ◌⊕◌
lin_top cs k x l h = ap (lin cs) split ∙ lin_⊕ cs (x - 2 ^ k) (2 ^ k)
  where
    below : x - 2 ^ k < 2 ^ k
    below = omega (arith, pow-suc 2 k)

    split : x ≡ (x - 2 ^ k) ⊕ (2 ^ k)
    split = sym (xor_comm (x - 2 ^ k) (2 ^ k) ∙ ap (λ u. bit_xor u (x - 2 ^ k)) (sym (one-mul (2 ^ k))) ∙ xor_shifted 1 k (x - 2 ^ k) below ∙ omega arith)
