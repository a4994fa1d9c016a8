-- Laws of exclusive or, which stays shut: `simp sums` sorts both sides alike and cancels.
-- Assumes nothing.
use Rattle.std.specs.Prelude.{◌≡◌, refl, ◌≢◌, ℕ, zero, suc, ◌+◌, ◌*◌, ◌/◌, ◌%◌, ◌^◌, ◌<◌}
use Rattle.std.proofs.Common.{sym, ap, ap₂, ◌∙◌, mod-lt, zero-lt-suc, zero-mul, one-mul, arith}
use Rattle.std.proofs.Math.Decide.{ℕ_discrete}
use Rattle.std.proofs.Math.Arith.{bin_ind, digits_div, digits_mod}
use Rattle.std.specs.Int.Bits.{bit_xor, xor_step, xor_self, xor_zero_r, xor_shifted, differ}
use Rattle.std.proofs.lemmas.Nat.{xor_comm, xor_lt, xor_shr, xor_mod, xor_block}
use Rattle.bits.specs.Xor.{◌⊕◌, xor_sum}

pub ⊕_comm : (a b : ℕ) → a ⊕ b ≡ b ⊕ a
unfolding ◌⊕◌
⊕_comm = xor_comm

pub ⊕_self : (a : ℕ) → a ⊕ a ≡ 0
unfolding ◌⊕◌
⊕_self = xor_self

pub ⊕_zero : (a : ℕ) → a ⊕ 0 ≡ a
unfolding ◌⊕◌
⊕_zero = xor_zero_r

pub zero_⊕ : (a : ℕ) → 0 ⊕ a ≡ a
unfolding ◌⊕◌
zero_⊕ a = refl

pub ⊕_shr : (a b k : ℕ) → (a ⊕ b) / 2 ^ k ≡ (a / 2 ^ k) ⊕ (b / 2 ^ k)
unfolding ◌⊕◌
⊕_shr = xor_shr

pub ⊕_lt : (k a b : ℕ) → a < 2 ^ k → b < 2 ^ k → a ⊕ b < 2 ^ k
unfolding ◌⊕◌
⊕_lt = xor_lt

-- Where the rows of bits do not overlap, the sum is the plain one.
pub ⊕_shifted : (a k b : ℕ) → b < 2 ^ k → a * 2 ^ k ⊕ b ≡ a * 2 ^ k + b
unfolding ◌⊕◌
⊕_shifted = xor_shifted

-- ---- the last bit and the rest

pub ⊕_step : (a b : ℕ) → a ⊕ b ≡ ((a / 2) ⊕ (b / 2)) * 2 + differ (a % 2) (b % 2)
unfolding ◌⊕◌
⊕_step = xor_step

digit : (a : ℕ) → a % 2 < 2
digit a = mod-lt a (zero-lt-suc 1)

pub differ_lt : (x y : ℕ) → x < 2 → y < 2 → differ x y < 2
differ_lt zero y hx hy = hy
differ_lt (suc x) zero hx hy = hx
differ_lt (suc zero) (suc zero) hx hy = zero-lt-suc 1
differ_lt (suc zero) (suc (suc y)) hx hy = omega arith
differ_lt (suc (suc x)) (suc y) hx hy = omega arith

differ_assoc : (x y z : ℕ) → x < 2 → y < 2 → z < 2 → differ (differ x y) z ≡ differ x (differ y z)
differ_assoc zero y z hx hy hz = refl
differ_assoc (suc zero) zero z hx hy hz = refl
differ_assoc (suc zero) (suc zero) zero hx hy hz = refl
differ_assoc (suc zero) (suc zero) (suc zero) hx hy hz = refl
differ_assoc (suc zero) (suc zero) (suc (suc z)) hx hy hz = omega arith
differ_assoc (suc zero) (suc (suc y)) z hx hy hz = omega arith
differ_assoc (suc (suc x)) y z hx hy hz = omega arith

pub ⊕_half : (a b : ℕ) → (a ⊕ b) / 2 ≡ (a / 2) ⊕ (b / 2)
⊕_half a b =
    ap (λ x. x / 2) (⊕_step a b) ∙ digits_div ((a / 2) ⊕ (b / 2)) (differ_lt (a % 2) (b % 2) (digit a) (digit b))

pub ⊕_last : (a b : ℕ) → (a ⊕ b) % 2 ≡ differ (a % 2) (b % 2)
⊕_last a b =
    ap (λ x. x % 2) (⊕_step a b) ∙ digits_mod ((a / 2) ⊕ (b / 2)) (differ_lt (a % 2) (b % 2) (digit a) (digit b))

pub ⊕_assoc : (a b c : ℕ) → (a ⊕ b) ⊕ c ≡ a ⊕ (b ⊕ c)
⊕_assoc a =
    bin_ind (λ (n : ℕ). (b c : ℕ) → (n ⊕ b) ⊕ c ≡ n ⊕ (b ⊕ c)) (λ b c. rw (zero_⊕ b, zero_⊕ (b ⊕ c)))
    (λ n ih b c.
    ⊕_step (n ⊕ b) c
    ∙ ap₂ (λ (x y : ℕ). x * 2 + y)
    (ap (λ x. x ⊕ (c / 2)) (⊕_half n b) ∙ ih (b / 2) (c / 2) ∙ ap (λ x. (n / 2) ⊕ x) (sym (⊕_half b c)))
    (ap (λ x. differ x (c % 2)) (⊕_last n b)
    ∙ differ_assoc (n % 2) (b % 2) (c % 2) (digit n) (digit b) (digit c)
    ∙ ap (differ (n % 2)) (sym (⊕_last b c)))
    ∙ sym (⊕_step n (b ⊕ c)))
    a

-- ---- sums of several

pub ⊕_left : (a b c : ℕ) → a ⊕ (b ⊕ c) ≡ b ⊕ (a ⊕ c)
⊕_left a b c = sym (⊕_assoc a b c) ∙ ap (λ x. x ⊕ c) (⊕_comm a b) ∙ ⊕_assoc b a c

pub ⊕_cancel : (a b : ℕ) → a ⊕ (a ⊕ b) ≡ b
⊕_cancel a b = sym (⊕_assoc a a b) ∙ ap (λ x. x ⊕ b) (⊕_self a) ∙ zero_⊕ b

pub ruleset sums = (⊕_assoc, ⊕_comm, ⊕_left, ⊕_self, ⊕_cancel, ⊕_zero, zero_⊕)

-- A sum is zero only of equals.
pub ⊕_eq : (a b : ℕ) → a ⊕ b ≡ 0 → a ≡ b
⊕_eq a b e = sym (⊕_zero a) ∙ ap (λ x. a ⊕ x) (sym e) ∙ ⊕_cancel a b

-- A term goes from one side to the other.
pub ⊕_move : (a b c : ℕ) → a ⊕ b ≡ c → b ≡ a ⊕ c
⊕_move a b c e = sym (⊕_cancel a b) ∙ ap (λ x. a ⊕ x) e

pub ⊕_four : (a b c d : ℕ) → (a ⊕ b) ⊕ (c ⊕ d) ≡ (a ⊕ c) ⊕ (b ⊕ d)
⊕_four a b c d = simp sums

-- ---- bits, and numbers taken once or not at all

pub ⊕_mod : (a b : ℕ) → (a ⊕ b) % 2 ≡ (a % 2) ⊕ (b % 2)
unfolding ◌⊕◌
⊕_mod a b = xor_mod a b 1

pub ⊕_bit : (a b : ℕ) → a < 2 → b < 2 → a ⊕ b < 2
⊕_bit = ⊕_lt 1

-- A word shifted by one bit, with a bit behind it.
pub ⊕_double : (s t a b : ℕ) → a < 2 → b < 2 → (s * 2 + a) ⊕ (t * 2 + b) ≡ (s ⊕ t) * 2 + (a ⊕ b)
unfolding ◌⊕◌
⊕_double s t a b ha hb = xor_block 1 s t a b ha hb

pub bit_times_⊕ : (b x y : ℕ) → b < 2 → b * (x ⊕ y) ≡ b * x ⊕ b * y
bit_times_⊕ zero x y h = rw (zero-mul, zero-mul, zero-mul) (sym (zero_⊕ 0))
bit_times_⊕ (suc zero) x y h = rw (one-mul, one-mul, one-mul) refl
bit_times_⊕ (suc (suc b)) x y h = absurd (omega arith)

pub bits_⊕_times : (a b x : ℕ) → a < 2 → b < 2 → (a ⊕ b) * x ≡ a * x ⊕ b * x
unfolding ◌⊕◌
bits_⊕_times zero b x ha hb = rw zero-mul refl
bits_⊕_times (suc zero) zero x ha hb = sym (ap (bit_xor (1 * x)) (zero-mul x) ∙ xor_zero_r (1 * x))
bits_⊕_times (suc zero) (suc zero) x ha hb = zero-mul x ∙ sym (xor_self (1 * x))
bits_⊕_times (suc zero) (suc (suc b)) x ha hb = absurd (omega arith)
bits_⊕_times (suc (suc a)) b x ha hb = absurd (omega arith)

-- ---- sums over places

pub xor_sum_ext : (n : ℕ) (f g : ℕ → ℕ) → ((k : ℕ) → k < n → f k ≡ g k) → xor_sum n f ≡ xor_sum n g
unfolding xor_sum
xor_sum_ext zero f g h = refl
xor_sum_ext (suc n) f g h = ap₂ ◌⊕◌ (xor_sum_ext n f g (λ k l. h k (omega arith))) (h n (omega arith))

pub xor_sum_⊕ : (n : ℕ) (f g : ℕ → ℕ) → xor_sum n (λ k. f k ⊕ g k) ≡ xor_sum n f ⊕ xor_sum n g
unfolding xor_sum
xor_sum_⊕ zero f g = sym (zero_⊕ 0)
xor_sum_⊕ (suc n) f g = ap (λ x. x ⊕ (f n ⊕ g n)) (xor_sum_⊕ n f g) ∙ ⊕_four (xor_sum n f) (xor_sum n g) (f n) (g n)

pub xor_sum_none : (n : ℕ) (f : ℕ → ℕ) → ((k : ℕ) → k < n → f k ≡ 0) → xor_sum n f ≡ 0
unfolding xor_sum
xor_sum_none zero f h = refl
xor_sum_none (suc n) f h = ap₂ ◌⊕◌ (xor_sum_none n f (λ k l. h k (omega arith))) (h n (omega arith)) ∙ zero_⊕ 0

-- A sum in which one place alone may count is what stands there.
pub xor_sum_one : (n i : ℕ) (f : ℕ → ℕ) → i < n → ((k : ℕ) → k < n → k ≢ i → f k ≡ 0) → xor_sum n f ≡ f i
unfolding xor_sum
xor_sum_one zero i f l h = absurd (omega arith)
xor_sum_one (suc n) i f l h = go (ℕ_discrete i n) (λ l'. xor_sum_one n i f l' (λ k lk ne. h k (omega arith) ne))
  where
    go : Dec (i ≡ n) → (i < n → xor_sum n f ≡ f i) → xor_sum n f ⊕ f n ≡ f i
    go (yes p) rest = ap (λ x. x ⊕ f n) (xor_sum_none n f (λ k lk. h k (omega arith) (omega arith))) ∙ zero_⊕ (f n) ∙ ap f (sym p)
    go (no p) rest = ap₂ ◌⊕◌ (rest (omega arith)) (h n (omega arith) (omega arith)) ∙ ⊕_zero (f i)

-- The first place taken out in front.
pub xor_sum_first : (n : ℕ) (f : ℕ → ℕ) → xor_sum (suc n) f ≡ f 0 ⊕ xor_sum n (λ k. f (suc k))
unfolding xor_sum
xor_sum_first zero f = ⊕_comm 0 (f 0)
xor_sum_first (suc n) f = ap (λ x. x ⊕ f (suc n)) (xor_sum_first n f) ∙ ⊕_assoc (f 0) (xor_sum n (λ k. f (suc k))) (f (suc n))

-- A sum may be gathered in any order: part after part, by rows or by columns, in reverse.
pub xor_sum_split : (n m : ℕ) (f : ℕ → ℕ) → xor_sum (n + m) f ≡ xor_sum n f ⊕ xor_sum m (λ k. f (n + k))
unfolding xor_sum
xor_sum_split n zero f = let e : n + 0 ≡ n = omega arith in ap (λ j. xor_sum j f) e ∙ sym (⊕_zero (xor_sum n f))
xor_sum_split n (suc m) f =
    let e : n + suc m ≡ suc (n + m) = omega arith in
    ap (λ j. xor_sum j f) e ∙ ap (λ x. x ⊕ f (n + m)) (xor_sum_split n m f)
    ∙ ⊕_assoc (xor_sum n f) (xor_sum m (λ k. f (n + k))) (f (n + m))

pub xor_sum_exchange : (m n : ℕ) (f : ℕ → ℕ → ℕ) → xor_sum m (λ i. xor_sum n (f i)) ≡ xor_sum n (λ j. xor_sum m (λ i. f i j))
unfolding xor_sum
xor_sum_exchange zero n f = sym (xor_sum_none n (λ j. 0) (λ j l. refl))
xor_sum_exchange (suc m) n f =
    ap (λ x. x ⊕ xor_sum n (f m)) (xor_sum_exchange m n f) ∙ sym (xor_sum_⊕ n (λ j. xor_sum m (λ i. f i j)) (f m))

pub xor_sum_reverse : (n : ℕ) (f g : ℕ → ℕ) → ((i j : ℕ) → suc (i + j) ≡ n → f i ≡ g j) → xor_sum n f ≡ xor_sum n g
unfolding xor_sum
xor_sum_reverse zero f g h = refl
xor_sum_reverse (suc n) f g h =
    xor_sum_first n f
    ∙ ap₂ ◌⊕◌ (h 0 n (omega arith)) (xor_sum_reverse n (λ k. f (suc k)) g (λ i j e. h (suc i) j (omega arith)))
    ∙ ⊕_comm (g n) (xor_sum n g)

pub xor_sum_lt : (w n : ℕ) (f : ℕ → ℕ) → ((k : ℕ) → k < n → f k < 2 ^ w) → 0 < 2 ^ w → xor_sum n f < 2 ^ w
unfolding xor_sum
xor_sum_lt w zero f h p = p
xor_sum_lt w (suc n) f h p = ⊕_lt w (xor_sum n f) (f n) (xor_sum_lt w n f (λ k l. h k (omega arith)) p) (h n (omega arith))
