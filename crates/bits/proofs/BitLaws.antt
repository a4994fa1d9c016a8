-- Laws of bits: a number and its bits, a buffer and its bits, a flipped bit.
-- Assumes nothing.
use Rattle.std.specs.Prelude.{◌≡◌, refl, List, ◌≢◌, ℕ, zero, suc, ◌+◌, ◌-◌, ◌*◌, ◌/◌, ◌%◌, ◌^◌, ◌<◌, length, get_or}
use Rattle.std.proofs.Common.{sym, ap, ◌∙◌, subst, ⊎_elim, not-suc-le-zero, le_of_suc-le-suc, eq-or-lt_of_le, div-one, pow-suc, arith, eq-eqb, ne_eqb, pow-add, ext_get_or}
use Rattle.std.proofs.Math.Nat.{div-div-eq-div-mul}
use Rattle.std.proofs.Math.Decide.{ℕ_discrete}
use Rattle.bits.specs.ListLaws.{get_d_tabulate, length_tabulate, tabulate_below, tabulate_ext}
use Rattle.bits.specs.Bits.{bit_of, bit, from_bits, byte_of, pack, flipped}

-- ---- a number and its bits

pub bit_of_lt : (w x i : ℕ) → bit_of w x i < 2
unfolding bit_of
bit_of_lt w x i = omega arith

pub from_bits_lt : (w : ℕ) (f : ℕ → ℕ) → from_bits w f < 2 ^ w
unfolding from_bits
from_bits_lt zero f = omega arith
from_bits_lt (suc w) f = omega (arith, from_bits_lt w f, pow-suc 2 w)

pub from_bits_ext : (w : ℕ) (f g : ℕ → ℕ) → ((i : ℕ) → i < w → f i % 2 ≡ g i % 2) → from_bits w f ≡ from_bits w g
unfolding from_bits
from_bits_ext zero f g h = refl
from_bits_ext (suc w) f g h = omega (arith, from_bits_ext w f g (λ i l. h i (omega arith)), h w (omega arith))

-- The next bit comes in at the end.
pub from_bits_next : (w : ℕ) (f : ℕ → ℕ) (b : ℕ) → b ≡ f w → b < 2 → from_bits w f * 2 + b ≡ from_bits (w + 1) f
unfolding from_bits
from_bits_next w f b e h = omega (arith, ap (λ (k : ℕ). from_bits k f) one_more, ap (λ (x : ℕ). x % 2) e)
  where
    one_more : w + 1 ≡ suc w
    one_more = omega arith

-- The bits of a number but the last are those of its half.
half_bit : (x w i : ℕ) → i < w → x / 2 ^ (w - i) ≡ x / 2 / 2 ^ (w - 1 - i)
half_bit x w i h =
    ap (λ (k : ℕ). x / k) (ap (λ (k : ℕ). 2 ^ k) (omega arith) ∙ pow-add 2 1 (w - 1 - i)) ∙ sym (div-div-eq-div-mul x 2 (2 ^ (w - 1 - i)))

pub bit_of_half : (w x i : ℕ) → i < w → bit_of (suc w) x i ≡ bit_of w (x / 2) i
unfolding bit_of
bit_of_half w x i h = ap (λ (k : ℕ). x / 2 ^ k % 2) (omega arith) ∙ ap (λ (k : ℕ). k % 2) (half_bit x w i h)

pub bit_of_last : (w x : ℕ) → bit_of (suc w) x w ≡ x % 2
unfolding bit_of
bit_of_last w x =
    let e : suc w - 1 - w ≡ 0 = omega arith in
    ap (λ (k : ℕ). x / 2 ^ k % 2) e ∙ ap (λ (k : ℕ). k % 2) (div-one x)

pub bit_of_from_bits : (w : ℕ) (f : ℕ → ℕ) (i : ℕ) → i < w → bit_of w (from_bits w f) i ≡ f i % 2
unfolding from_bits
bit_of_from_bits zero f i h = absurd (not-suc-le-zero h)
bit_of_from_bits (suc w) f i h =
    ⊎_elim
    (λ e. subst (λ (k : ℕ). bit_of (suc w) (from_bits w f * 2 + f w % 2) k ≡ f k % 2) (sym e) (bit_of_last w (from_bits w f * 2 + f w % 2) ∙ omega arith))
    (λ l. bit_of_half w (from_bits w f * 2 + f w % 2) i l ∙ ap (λ (x : ℕ). bit_of w x i) (omega arith) ∙ bit_of_from_bits w f i l)
    (eq-or-lt_of_le (le_of_suc-le-suc h))

pub from_bits_bit_of : (w x : ℕ) → x < 2 ^ w → from_bits w (bit_of w x) ≡ x
unfolding from_bits
from_bits_bit_of zero x h = omega arith
from_bits_bit_of (suc w) x h =
    let e : from_bits w (bit_of (suc w) x) ≡ from_bits w (bit_of w (x / 2)) = from_bits_ext w _ _ (λ i l. ap (λ (k : ℕ). k % 2) (bit_of_half w x i l)) in
    omega (arith, e, from_bits_bit_of w (x / 2) (omega (arith, pow-suc 2 w)), bit_of_last w x)

-- Numbers of w bits whose bits agree are equal.
pub bit_of_equal : (w x y : ℕ) → x < 2 ^ w → y < 2 ^ w → ((i : ℕ) → i < w → bit_of w x i ≡ bit_of w y i) → x ≡ y
bit_of_equal w x y hx hy same =
    sym (from_bits_bit_of w x hx) ∙ from_bits_ext w _ _ (λ i l. ap (λ (k : ℕ). k % 2) (same i l)) ∙ from_bits_bit_of w y hy

-- ---- a buffer and its bits

pub bit_lt : (s : List ℕ) (i : ℕ) → bit s i < 2
unfolding bit
bit_lt s i = bit_of_lt 8 (get_or s (i / 8) 0) (i % 8)

pub length_pack : (n : ℕ) (f : ℕ → ℕ) → length (pack n f) ≡ n
unfolding pack
length_pack n f = length_tabulate n (byte_of f)

pub byte_of_lt : (f : ℕ → ℕ) (j : ℕ) → byte_of f j < 256
unfolding byte_of
byte_of_lt f j = from_bits_lt 8 (λ k. f (j * 8 + k))

pub pack_below : (n : ℕ) (f : ℕ → ℕ) (j : ℕ) → get_or (pack n f) j 0 < 256
unfolding pack
pack_below n f j = tabulate_below n (byte_of f) 256 (byte_of_lt f) (omega arith) j

-- Bit i of a packed buffer is the bit that was packed.
pub bit_pack : (n : ℕ) (f : ℕ → ℕ) (i : ℕ) → i < n * 8 → bit (pack n f) i ≡ f i % 2
unfolding bit byte_of pack
bit_pack n f i h =
    ap (λ (x : ℕ). bit_of 8 x (i % 8)) (get_d_tabulate n (byte_of f) (i / 8) 0 (omega arith))
    ∙ bit_of_from_bits 8 (λ k. f (i / 8 * 8 + k)) (i % 8) (omega arith)
    ∙ ap (λ (k : ℕ). f k % 2) (omega arith)

-- The same where f gives bits.
pub bit_pack_of : (n : ℕ) (f : ℕ → ℕ) → ((k : ℕ) → f k < 2) → (i : ℕ) → i < n * 8 → bit (pack n f) i ≡ f i
bit_pack_of n f b i h = bit_pack n f i h ∙ omega (arith, b i)

-- Functions that agree on the bits give one buffer.
pub pack_ext : (n : ℕ) (f g : ℕ → ℕ) → ((i : ℕ) → i < n * 8 → f i ≡ g i) → pack n f ≡ pack n g
unfolding pack byte_of
pack_ext n f g h =
    tabulate_ext n (byte_of f) (byte_of g)
    (λ j l. from_bits_ext 8 (λ k. f (j * 8 + k)) (λ k. g (j * 8 + k)) (λ k lk. ap (λ x. x % 2) (h (j * 8 + k) (omega arith))))

-- Two buffers of one length are equal where all their bits are.
pub bits_equal : (s t : List ℕ) → length s ≡ length t → ((j : ℕ) → get_or s j 0 < 256) → ((j : ℕ) → get_or t j 0 < 256)
    → ((i : ℕ) → i < length s * 8 → bit s i ≡ bit t i) → s ≡ t
unfolding bit
bits_equal s t e hs ht same =
    ext_get_or 0 s t e
    (λ j l. bit_of_equal 8 (get_or s j 0) (get_or t j 0) (hs j) (ht j)
    (λ k lk. let p : (j * 8 + k) / 8 ≡ j = omega arith in
    let q : (j * 8 + k) % 8 ≡ k = omega arith in
    rw (p, q) at (same (j * 8 + k) (omega arith))))

-- A buffer whose bits f gives is `pack n f`.
pub is_pack : (s : List ℕ) (n : ℕ) (f : ℕ → ℕ) → length s ≡ n → ((j : ℕ) → get_or s j 0 < 256) → ((i : ℕ) → i < n * 8 → bit s i ≡ f i % 2)
    → s ≡ pack n f
is_pack s n f e h same =
    bits_equal s (pack n f) (e ∙ sym (length_pack n f)) h (pack_below n f)
    (λ i l. let k : i < n * 8 = omega arith in same i k ∙ sym (bit_pack n f i k))

-- A buffer is the pack of its own bits.
pub pack_bit : (s : List ℕ) (n : ℕ) → length s ≡ n → ((j : ℕ) → get_or s j 0 < 256) → pack n (bit s) ≡ s
pack_bit s n e h = sym (is_pack s n (bit s) e h (λ i l. sym (omega (arith, bit_lt s i))))

-- ---- a flipped bit

pub flipped_at : (i : ℕ) (f : ℕ → ℕ) → flipped i f i ≡ 1 - f i
unfolding flipped
flipped_at i f = simp (eq-eqb i i refl)

pub flipped_off : (i : ℕ) (f : ℕ → ℕ) (k : ℕ) → k ≢ i → flipped i f k ≡ f k
unfolding flipped
flipped_off i f k n = simp (ne_eqb k i n)

pub flipped_lt : (i : ℕ) (f : ℕ → ℕ) → ((k : ℕ) → f k < 2) → (k : ℕ) → flipped i f k < 2
flipped_lt i f b k = go (ℕ_discrete k i)
  where
    go : Dec (k ≡ i) → flipped i f k < 2
    go (yes e) = rw (e, flipped_at i f) (omega arith)
    go (no n) = rw (flipped_off i f k n) (b k)

-- Flipped twice at one place, the bits are as they were.
pub flipped_twice : (i : ℕ) (f : ℕ → ℕ) → f i < 2 → (k : ℕ) → flipped i (flipped i f) k ≡ f k
flipped_twice i f b k = go (ℕ_discrete k i)
  where
    go : Dec (k ≡ i) → flipped i (flipped i f) k ≡ f k
    go (yes e) = rw (e, flipped_at i (flipped i f), flipped_at i f) (omega arith)
    go (no n) = flipped_off i (flipped i f) k n ∙ flipped_off i f k n
