-- A number as its upper and its lower bits, and a byte as its bits.
-- Assumes nothing.
use Rattle.std.specs.Prelude.{◌≡◌, refl, List, ℕ, zero, suc, ◌+◌, ◌-◌, ◌*◌, ◌/◌, ◌%◌, ◌^◌, ◌<◌, get_or}
use Rattle.std.proofs.Common.{sym, ap, ap₂, ◌∙◌, pow-suc, arith}
use Rattle.bits.specs.Bits.{bit_of, bit, from_bits, byte_of}
use Rattle.bits.proofs.BitLaws.{from_bits_lt, from_bits_ext, from_bits_bit_of}

-- m + n bits are m bits and then n.
pub from_bits_split : (m n : ℕ) (f : ℕ → ℕ) → from_bits (m + n) f ≡ from_bits m f * 2 ^ n + from_bits n (λ k. f (m + k))
unfolding from_bits
from_bits_split m zero f = let e : m + 0 ≡ m = omega arith in ap (λ w. from_bits w f) e ∙ omega arith
from_bits_split m (suc n) f =
    ap (λ w. from_bits w f) again ∙ ap (λ x. x * 2 + f (m + n) % 2) (from_bits_split m n f)
    ∙ omega (arith, ap (λ p. from_bits m f * p) (pow-suc 2 n) ∙ double (from_bits m f) (2 ^ n))
  where
    again : m + suc n ≡ suc (m + n)
    again = omega arith

    double : (a p : ℕ) → a * (p * 2) ≡ a * p * 2
    double a p = omega arith

-- The bits of a byte of a buffer.
pub byte_of_bit : (s : List ℕ) (j x : ℕ) → x ≡ get_or s j 0 → x < 256 → byte_of (bit s) j ≡ x
unfolding byte_of bit
byte_of_bit s j x e l =
    from_bits_ext 8 (λ k. bit s (j * 8 + k)) (bit_of 8 x)
    (λ k lk.
    let h : (j * 8 + k) / 8 ≡ j = omega arith in
    let m : (j * 8 + k) % 8 ≡ k = omega arith in
    rw (h, m, e))
    ∙ from_bits_bit_of 8 x l

-- Byte j of the bits f is byte n of a buffer that has them there.
pub byte_copied : (s : List ℕ) (f : ℕ → ℕ) (j n : ℕ) → ((i : ℕ) → get_or s i 0 < 256) → ((k : ℕ) → k < 8 → bit s (n * 8 + k) ≡ f (j * 8 + k))
    → get_or s n 0 ≡ byte_of f j
unfolding byte_of
byte_copied s f j n b same =
    sym (byte_of_bit s n (get_or s n 0) refl (b n))
    ∙ from_bits_ext 8 (λ k. bit s (n * 8 + k)) (λ k. f (j * 8 + k)) (λ k lk. ap (λ u. u % 2) (same k lk))

-- Bits that agree on a byte.
pub byte_of_ext : (f g : ℕ → ℕ) (j : ℕ) → ((k : ℕ) → k < 8 → f (j * 8 + k) ≡ g (j * 8 + k)) → byte_of f j ≡ byte_of g j
unfolding byte_of
byte_of_ext f g j same = from_bits_ext 8 (λ k. f (j * 8 + k)) (λ k. g (j * 8 + k)) (λ k l. ap (λ u. u % 2) (same k l))

-- Sixteen bits that are those of two bytes of a buffer, the upper and the lower.
pub two_bytes : (s : List ℕ) (u v x y : ℕ) (f : ℕ → ℕ) → x ≡ get_or s u 0 → y ≡ get_or s v 0 → x < 256 → y < 256
    → ((k : ℕ) → k < 8 → f k ≡ bit s (u * 8 + k)) → ((k : ℕ) → k < 8 → f (8 + k) ≡ bit s (v * 8 + k)) → x * 256 + y ≡ from_bits 16 f
unfolding byte_of
two_bytes s u v x y f p q lx ly upper lower =
    ap₂ (λ a b. a * 256 + b) (sym (byte_of_bit s u x p lx)) (sym (byte_of_bit s v y q ly))
    ∙ ap₂ (λ a b. a * 256 + b)
    (from_bits_ext 8 (λ k. bit s (u * 8 + k)) f (λ k l. ap (λ z. z % 2) (sym (upper k l))))
    (from_bits_ext 8 (λ k. bit s (v * 8 + k)) (λ k. f (8 + k)) (λ k l. ap (λ z. z % 2) (sym (lower k l))))
    ∙ sym (from_bits_split 8 8 f)

-- Half h of sixteen bits.
pub half_is : (w h : ℕ) → w < 2 ^ 16 → h < 2 → w / 2 ^ (8 - 8 * h) % 256 ≡ from_bits 8 (λ k. bit_of 16 w (8 * h + k))
half_is w zero lw lh =
    upper ∙ from_bits_ext 8 (bit_of 16 w) (λ k. bit_of 16 w (8 * 0 + k)) (λ k l. ap (λ x. bit_of 16 w x % 2) (omega arith))
  where
    upper : w / 2 ^ (8 - 8 * 0) % 256 ≡ from_bits 8 (bit_of 16 w)
    upper = omega (arith, from_bits_bit_of 16 w lw, from_bits_split 8 8 (bit_of 16 w), from_bits_lt 8 (bit_of 16 w), from_bits_lt 8 (λ k. bit_of 16 w (8 + k)))
half_is w (suc zero) lw lh =
    omega (arith, from_bits_bit_of 16 w lw, from_bits_split 8 8 (bit_of 16 w), from_bits_lt 8 (bit_of 16 w), from_bits_lt 8 (λ k. bit_of 16 w (8 + k)))
half_is w (suc (suc h)) lw lh = absurd (omega arith)
