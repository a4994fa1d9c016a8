-- Stretches of a number's bits: some in its midst, its bytes, and a number made of digits of m bits each, of which: none / more / done.
-- Assumes nothing.
use Rattle.std.specs.Prelude.{◌≡◌, refl, List, ℕ, zero, suc, ◌+◌, ◌*◌, ◌/◌, ◌%◌, ◌^◌, ◌<◌, ◌≤◌, T, leb, length}
use Rattle.std.proofs.Common.{sym, ap, ap₂, ◌∙◌, zero-mul, one-mul, add-mul, mul-le-mul_right, arith, leb→le, pow_mono}
use borrow.Rule.Slice.PartMut.{put_mid}
use Rattle.std.proofs.Math.Pow.{high, low}
use Rattle.std.proofs.lemmas.Nat.{mod-pow-add}
use Rattle.std.specs.Int.{Width}
use mir.Val.{Fits, bits}
use Rattle.bits.specs.Bits.{bit_of, byte_of, from_bits, pack}
use Rattle.bits.proofs.BitLaws.{from_bits_lt, from_bits_ext, from_bits_bit_of, bit_of_from_bits, bit_of_half, bit_of_last}
use Rattle.bits.specs.Filling.{fill_none, fill_ext, fill_part, fill_done}
use Rattle.bits.specs.Lists.{tabulate}
use Rattle.bits.specs.ListLaws.{tabulate_ext}
use Rattle.bits.proofs.NumberLaws.{from_bits_split}

-- The bits f without the first n,
unfoldable pub behind : ℕ → (ℕ → ℕ) → ℕ → ℕ
behind n f k = f (n + k)

-- and without some more.
pub behind_both : (m a b c x : ℕ) (f : ℕ → ℕ) → c ≡ b + a → x ≡ from_bits m (behind c f) → x ≡ from_bits m (behind a (behind b f))
unfolding behind
behind_both m a b c x f e p = p ∙ from_bits_ext m (λ k. f (c + k)) (λ k. f (b + (a + k))) (λ k l. ap (λ n. f n % 2) (omega arith))

-- A number as its upper and its lower bits.
pub behind_split : (m n : ℕ) (f : ℕ → ℕ) → from_bits (m + n) f ≡ from_bits m f * 2 ^ n + from_bits n (behind m f)
unfolding behind
behind_split = from_bits_split

-- The n bits of a number that stand behind the first a and before the last r.
pub bits_amid : (a n r : ℕ) (f : ℕ → ℕ) → from_bits (a + n + r) f / 2 ^ r % 2 ^ n ≡ from_bits n (behind a f)
bits_amid a n r f =
    ap (λ x. x / 2 ^ r % 2 ^ n) (behind_split (a + n) r f)
    ∙ ap (λ x. x % 2 ^ n) (high (from_bits (a + n) f) r (from_bits_lt r (behind (a + n) f)) ∙ behind_split a n f)
    ∙ low (from_bits a f) n (from_bits_lt n (behind a f))

-- The last w bits of a number.
pub number_low : (w x : ℕ) → from_bits w (bit_of w x) ≡ x % 2 ^ w
unfolding from_bits
number_low zero x = omega arith
number_low (suc w) x =
    let e : from_bits w (bit_of (suc w) x) ≡ from_bits w (bit_of w (x / 2)) = from_bits_ext w _ _ (λ i l. ap (λ k. k % 2) (bit_of_half w x i l)) in
    let n : w + 1 ≡ suc w = omega arith in
    omega (arith, e, number_low w (x / 2), bit_of_last w x, sym (mod-pow-add x w 1) ∙ ap (λ m. x % 2 ^ m) n)

-- Byte j of a number of w bits, with r bits behind it.
pub byte_of_number : (w x j r : ℕ) → x < 2 ^ w → j * 8 + 8 + r ≡ w → x / 2 ^ r % 256 ≡ byte_of (bit_of w x) j
unfolding byte_of behind
byte_of_number w x j r l e =
    ap (λ y. y / 2 ^ r % 256) (sym (from_bits_bit_of w x l) ∙ ap (λ n. from_bits n (bit_of w x)) (sym e)) ∙ bits_amid (j * 8) 8 r (bit_of w x)

-- The bytes of a number that has the bits f.
pub pack_number : (n x : ℕ) (f : ℕ → ℕ) → x ≡ from_bits (n * 8) f → pack n (bit_of (n * 8) x) ≡ pack n f
unfolding pack byte_of
pack_number n x f e =
    tabulate_ext n (byte_of (bit_of (n * 8) x)) (byte_of f)
    (λ j l. from_bits_ext 8 (λ k. bit_of (n * 8) x (j * 8 + k)) (λ k. f (j * 8 + k))
    (λ k lk. omega (arith, ap (λ y. bit_of (n * 8) y (j * 8 + k)) e ∙ bit_of_from_bits (n * 8) f (j * 8 + k) (omega arith))))

-- The bits g, packed, are those of f from byte a on.
pub pack_part : (m a : ℕ) (f g : ℕ → ℕ) → ((i : ℕ) → i < m * 8 → g i ≡ f (a * 8 + i)) → pack m g ≡ tabulate m (λ j. byte_of f (a + j))
unfolding pack byte_of
pack_part m a f g same =
    tabulate_ext m (byte_of g) (λ j. byte_of f (a + j))
    (λ j l. from_bits_ext 8 (λ k. g (j * 8 + k)) (λ k. f ((a + j) * 8 + k))
    (λ k lk. ap (λ b. b % 2) (same (j * 8 + k) (omega arith) ∙ ap f (omega arith))))

-- Two parts of a buffer were lent, the first m values and the last l, which together are all of it.
pub two_lent : (f : ℕ → ℕ) (n m a l : ℕ) (d ys zs : List ℕ) → length d ≡ n → a ≤ m → m ≤ n → a + l ≡ n → ys ≡ tabulate m (λ k. f (0 + k))
    → zs ≡ tabulate l (λ k. f (a + k)) → put_mid a l (put_mid 0 m d ys) zs ≡ tabulate n f
two_lent f n m a l d ys zs long la lm e p q =
    fill_done
    (fill_part l zs (fill_ext a (fill_part m ys (fill_none f n d long) (omega arith) p) (omega arith) (λ k lk. refl)) (omega arith) q)
    (omega arith)

-- ---- digits into a number

-- Of n digits of m bits each, whose bits f gives, v has taken k.
pub record Digits (m : ℕ) (f : ℕ → ℕ) (n k v : ℕ) : Type 0 where
  pub upto : k ≤ n
  pub is : v ≡ from_bits (k * m) f

pub digits_none : (m : ℕ) (f : ℕ → ℕ) (n : ℕ) → Digits m f n 0 0
unfolding from_bits
digits_none m f n = record { upto = omega arith; is = ap (λ w. from_bits w f) (sym (zero-mul m)) }

module _ {m : ℕ} {f : ℕ → ℕ} {n k v : ℕ} (b x : ℕ) (h : Digits m f n k v) (l : k < n) (p : b ≡ 2 ^ m)
    (e : x ≡ from_bits m (behind (k * m) f)) where
  pub digits_more : Digits m f n (k + 1) (v * b + x)
  digits_more =
      record {
        upto = omega arith;
        is = ap₂ (λ y c. y * c + x) h.is p ∙ ap (λ y. from_bits (k * m) f * 2 ^ m + y) e ∙ sym (behind_split (k * m) m f)
            ∙ ap (λ w. from_bits w f) (sym (add-mul k 1 m ∙ ap (λ w. k * m + w) (one-mul m)));
      }

  -- Taking the next digit in does not wrap.
  pub digits_add : (W : Width) → T (leb (n * m) (bits W)) → Fits W (v * b + x)
  digits_add W t =
      record {
        fits = omega (
          arith,
          digits_more.is,
          from_bits_lt ((k + 1) * m) f,
          pow_mono {i = (k + 1) * m} {j = n * m} (mul-le-mul_right {m = k + 1} {n = n} m (omega arith)),
          pow_mono {i = n * m} {j = bits W} (leb→le (n * m) (bits W) t),
        );
      }

pub digits_mul : {m : ℕ} {f : ℕ → ℕ} {n k v : ℕ} (W : Width) (b : ℕ) → Digits m f n k v → k < n → b ≡ 2 ^ m → T (leb (n * m) (bits W))
    → Fits W (v * b)
digits_mul {m} {f} {n} {k} {v} W b h l base t =
    record { fits = omega (arith, (digits_add b (from_bits m (behind (k * m) f)) h l base refl W t).fits) }

pub digits_done : {m : ℕ} {f : ℕ → ℕ} {n k v : ℕ} (w : ℕ) → Digits m f n k v → n ≤ k → n * m ≡ w → v ≡ from_bits w f
digits_done {m} {f} {n} {k} {v} w h l e =
    let all : k ≡ n = omega (arith, h.upto) in
    h.is ∙ ap (λ u. from_bits u f) (ap (λ i. i * m) all ∙ e)

pub digits_lt : {m : ℕ} {f : ℕ → ℕ} {n k v : ℕ} (w : ℕ) → Digits m f n k v → n ≤ k → n * m ≡ w → v < 2 ^ w
digits_lt {m} {f} {n} {k} {v} w h l e = omega (arith, digits_done w h l e, from_bits_lt w f)

pub ruleset digits = (digits_none, digits_mul, digits_add, digits_more, digits_done, digits_lt)
