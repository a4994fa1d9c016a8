-- Laws of blocks by whole rows: what the word operations give, and moves one after the other.
-- Assumes nothing.
use Rattle.std.specs.Prelude.{◌≡◌, refl, List, ℕ, zero, suc, ◌+◌, ◌-◌, ◌*◌, ◌/◌, ◌%◌, ◌^◌, ◌<◌, T, eqb, get_or}
use Rattle.std.proofs.Common.{sym, ◌∙◌, add-mul, div-one, mul-one, mul_assoc, pow-add, shl_lt, shr-shr}
use Rattle.std.proofs.Math.Path.{ap, ap₂}
use native.Mathlib.Omega.{arith}
use Rattle.std.specs.Int.Bits.{bit_and, bit_or, bit_xor, and_zero_r, and_lt, or_self, xor_zero_r}
use Rattle.std.specs.Int.{w16, rotate_left}
use Rattle.std.proofs.lemmas.Nat.{and_shr, and_mod, xor_shr, xor_mod, xor_lt, or_shifted}
use Rattle.std.proofs.Math.Pow.{high, low}
use Rattle.bits.specs.Bits.{bit_of, from_bits}
use Rattle.bits.proofs.BitLaws.{bit_of_lt, bit_of_from_bits, from_bits_lt, from_bits_ext, from_bits_bit_of}
use Rattle.bits.specs.ListLaws.{get_d_tabulate, tabulate_ext}
use Rattle.bits.specs.Tests.{every, grid}
use Rattle.bits.proofs.NumberLaws.{from_bits_split}
use Rattle.blocks.specs.Block.{bit_at, row_word, block}
use Rattle.blocks.specs.BlockLaws.{bit_at_lt, bit_at_block_of}
use Rattle.blocks.specs.Moves.{turned, pick, chosen, moved_word, moved_in, moved, transposed}

-- ---- columns chosen between two rows

pub bit_of_xor : (w a b c : ℕ) → bit_of w (bit_xor a b) c ≡ bit_xor (bit_of w a c) (bit_of w b c)
unfolding bit_of
bit_of_xor w a b c = ap (λ u. u % 2) (xor_shr a b (w - 1 - c)) ∙ xor_mod (a / 2 ^ (w - 1 - c)) (b / 2 ^ (w - 1 - c)) 1

pub bit_of_and : (w a b c : ℕ) → bit_of w (bit_and a b) c ≡ bit_and (bit_of w a c) (bit_of w b c)
unfolding bit_of
bit_of_and w a b c = ap (λ u. u % 2) (and_shr a b (w - 1 - c)) ∙ and_mod (a / 2 ^ (w - 1 - c)) (b / 2 ^ (w - 1 - c)) 1

pub choose_bit : (m u v : ℕ) → m < 2 → u < 2 → v < 2 → bit_xor v (bit_and (bit_xor u v) m) ≡ pick m u v
unfolding pick
choose_bit zero u v hm hu hv = ap (bit_xor v) (and_zero_r (bit_xor u v)) ∙ xor_zero_r v
choose_bit (suc zero) zero zero hm hu hv = refl
choose_bit (suc zero) zero (suc zero) hm hu hv = refl
choose_bit (suc zero) (suc zero) zero hm hu hv = refl
choose_bit (suc zero) (suc zero) (suc zero) hm hu hv = refl
choose_bit (suc zero) zero (suc (suc v)) hm hu hv = absurd (omega arith)
choose_bit (suc zero) (suc zero) (suc (suc v)) hm hu hv = absurd (omega arith)
choose_bit (suc zero) (suc (suc u)) v hm hu hv = absurd (omega arith)
choose_bit (suc (suc m)) u v hm hu hv = absurd (omega arith)

pub choose_is : (m x y : ℕ) → m < 2 ^ 16 → x < 2 ^ 16 → y < 2 ^ 16 → bit_xor y (bit_and (bit_xor x y) m) ≡ chosen m x y
unfolding chosen
choose_is m x y lm lx ly =
    sym (from_bits_bit_of 16 word (xor_lt 16 y (bit_and (bit_xor x y) m) ly (and_lt 16 (bit_xor x y) m (xor_lt 16 x y lx ly) lm)))
    ∙ from_bits_ext 16 (bit_of 16 word) (λ c. pick (bit_of 16 m c) (bit_of 16 x c) (bit_of 16 y c)) (λ c l. ap (λ u. u % 2) (one c))
  where
    word : ℕ
    word = bit_xor y (bit_and (bit_xor x y) m)

    one : (c : ℕ) → bit_of 16 (bit_xor y (bit_and (bit_xor x y) m)) c ≡ pick (bit_of 16 m c) (bit_of 16 x c) (bit_of 16 y c)
    one c =
        bit_of_xor 16 y (bit_and (bit_xor x y) m) c
        ∙ ap (bit_xor (bit_of 16 y c)) (bit_of_and 16 (bit_xor x y) m c ∙ ap (λ u. bit_and u (bit_of 16 m c)) (bit_of_xor 16 x y c))
        ∙ choose_bit (bit_of 16 m c) (bit_of 16 x c) (bit_of 16 y c) (bit_of_lt 16 m c) (bit_of_lt 16 x c) (bit_of_lt 16 y c)

-- ---- a row turned

-- A row is n columns and then the others; turned, the others and then the n.
module _ (x n rest : ℕ) (lx : x < 2 ^ 16) (is : n + rest ≡ 16) where
  abbrev front : ℕ
  front = from_bits n (bit_of 16 x)

  abbrev back : ℕ
  back = from_bits rest (λ c. bit_of 16 x (n + c))

  parted : x ≡ front * 2 ^ rest + back
  parted = sym (from_bits_bit_of 16 x lx) ∙ ap (λ w. from_bits w (bit_of 16 x)) (sym is) ∙ from_bits_split n rest (bit_of 16 x)

  turn_front : x / 2 ^ rest ≡ front
  turn_front = ap (λ v. v / 2 ^ rest) parted ∙ high front rest (from_bits_lt rest (λ c. bit_of 16 x (n + c)))

  turn_back : x * 2 ^ n % 2 ^ 16 ≡ back * 2 ^ n
  turn_back =
      ap (λ v. v * 2 ^ n % 2 ^ 16) parted
      ∙ ap (λ v. v % 2 ^ 16) (add-mul (front * 2 ^ rest) back (2 ^ n) ∙ ap (λ v. v + back * 2 ^ n) whole)
      ∙ low front 16 small
    where
      sixteen : 2 ^ rest * 2 ^ n ≡ 2 ^ 16
      sixteen = let e : rest + n ≡ 16 = omega arith in sym (pow-add 2 rest n) ∙ ap (λ w. 2 ^ w) e

      whole : front * 2 ^ rest * 2 ^ n ≡ front * 2 ^ 16
      whole = mul_assoc front (2 ^ rest) (2 ^ n) ∙ ap (λ v. front * v) sixteen

      small : back * 2 ^ n < 2 ^ 16
      small = let e : rest + n ≡ 16 = omega arith in rw e at (shl_lt rest n (from_bits_lt rest (λ c. bit_of 16 x (n + c))))

  turn_whole : turned x n ≡ back * 2 ^ n + front
  unfolding turned
  turn_whole =
      let e : 16 ≡ rest + n = omega arith in
      ap (λ w. from_bits w (λ c. bit_of 16 x ((c + n) % 16))) e
      ∙ from_bits_split rest n (λ c. bit_of 16 x ((c + n) % 16))
      ∙ ap₂ (λ u v. u * 2 ^ n + v)
      (from_bits_ext rest (λ c. bit_of 16 x ((c + n) % 16)) (λ c. bit_of 16 x (n + c)) (λ c l. ap (λ k. bit_of 16 x k % 2) (omega arith)))
      (from_bits_ext n (λ c. bit_of 16 x ((rest + c + n) % 16)) (bit_of 16 x) (λ c l. ap (λ k. bit_of 16 x k % 2) (omega arith)))

  turn_parts : bit_or (x * 2 ^ n % 2 ^ 16) (x / 2 ^ rest) ≡ turned x n
  turn_parts = ap₂ bit_or turn_back turn_front ∙ or_shifted back n front (from_bits_lt n (bit_of 16 x)) ∙ sym turn_whole

turned_none : (x : ℕ) → x < 2 ^ 16 → turned x 0 ≡ x
unfolding turned
turned_none x lx =
    from_bits_ext 16 (λ c. bit_of 16 x ((c + 0) % 16)) (bit_of 16 x) (λ c l. ap (λ k. bit_of 16 x k % 2) (omega arith)) ∙ from_bits_bit_of 16 x lx

-- By two shifts, and as std turns a number.
pub turn_is : (x n : ℕ) → x < 2 ^ 16 → n < 16 → bit_or (x * 2 ^ n % 2 ^ 16) (x / 2 ^ 1 / 2 ^ (15 - n)) ≡ turned x n
turn_is x n lx ln =
    ap (bit_or (x * 2 ^ n % 2 ^ 16)) (shr-shr x 1 (15 - n) ∙ ap (λ k. x / 2 ^ k) (omega arith))
    ∙ turn_parts x n (16 - n) lx (omega arith)

pub rotated_is : (x n : ℕ) → x < 2 ^ 16 → n < 16 → rotate_left w16 x n ≡ turned x n
rotated_is x zero lx ln =
    let whole : x % 65536 ≡ x = omega arith in
    rw (mul-one x, whole, div-one x, or_self x) (sym (turned_none x lx))
rotated_is x (suc n) lx ln =
    let m : suc n % 16 ≡ suc n = omega arith in
    let r : (16 - suc n) % 16 ≡ 16 - suc n = omega arith in
    rw (m, r) (turn_parts x (suc n) (16 - suc n) lx (omega arith))

pub turned_bit : (x n c : ℕ) → c < 16 → bit_of 16 (turned x n) c ≡ bit_of 16 x ((c + n) % 16)
unfolding turned
turned_bit x n c l = bit_of_from_bits 16 (λ c. bit_of 16 x ((c + n) % 16)) c l ∙ omega (arith, bit_of_lt 16 x ((c + n) % 16))

-- ---- moves one after the other

module _ (n w : ℕ) where
  moved_ext : (r₁ c₁ r₂ c₂ : ℕ → ℕ → ℕ) (a b : List ℕ)
      → ((i c : ℕ) → i < n → c < w → bit_of w (get_or a (r₁ i c) 0) (c₁ i c) ≡ bit_of w (get_or b (r₂ i c) 0) (c₂ i c)) → moved_in n w r₁ c₁ a ≡ moved_in n w r₂ c₂ b
  unfolding moved_in moved_word
  moved_ext r₁ c₁ r₂ c₂ a b same =
      tabulate_ext n (moved_word w r₁ c₁ a) (moved_word w r₂ c₂ b)
      (λ i li. from_bits_ext w (λ c. bit_of w (get_or a (r₁ i c) 0) (c₁ i c)) (λ c. bit_of w (get_or b (r₂ i c) 0) (c₂ i c)) (λ c lc. ap (λ v. v % 2) (same i c li lc)))

  pub moved_bit_lem : (r k : ℕ → ℕ → ℕ) (b : List ℕ) (i c : ℕ) → i < n → c < w → bit_of w (get_or (moved_in n w r k b) i 0) c ≡ bit_of w (get_or b (r i c) 0) (k i c)
  unfolding moved_in moved_word
  moved_bit_lem r k b i c li lc =
      ap (λ v. bit_of w v c) (get_d_tabulate n (moved_word w r k b) i 0 li) ∙ bit_of_from_bits w (λ c. bit_of w (get_or b (r i c) 0) (k i c)) c lc
      ∙ omega (arith, bit_of_lt w (get_or b (r i c) 0) (k i c))

pub record Moves (n w : ℕ) (row column : ℕ → ℕ → ℕ) (b y : List ℕ) : Type 0 where
  pub is : y ≡ moved_in n w row column b

-- The same places, computed at all of them.
pub moves_same : {n w : ℕ} {r₁ c₁ : ℕ → ℕ → ℕ} (r₂ c₂ : ℕ → ℕ → ℕ) {b y : List ℕ} → Moves n w r₁ c₁ b y
    → T (every n (λ i. every w (λ c. eqb (r₁ i c) (r₂ i c)))) → T (every n (λ i. every w (λ c. eqb (c₁ i c) (c₂ i c)))) → y ≡ moved_in n w r₂ c₂ b
moves_same {n} {w} {r₁} {c₁} r₂ c₂ {b} h p q =
    h.is ∙ moved_ext n w r₁ c₁ r₂ c₂ b b (λ i c li lc. ap₂ (λ u v. bit_of w (get_or b u 0) v) (grid n w r₁ r₂ p i c li lc) (grid n w c₁ c₂ q i c li lc))

pub moves_then : {n w : ℕ} {r₁ c₁ r₂ c₂ : ℕ → ℕ → ℕ} {b x y : List ℕ} → Moves n w r₁ c₁ b x → Moves n w r₂ c₂ x y → ((i c : ℕ) → i < n → c < w → r₂ i c < n)
    → ((i c : ℕ) → i < n → c < w → c₂ i c < w) → Moves n w (λ i c. r₁ (r₂ i c) (c₂ i c)) (λ i c. c₁ (r₂ i c) (c₂ i c)) b y
moves_then {n} {w} {r₁} {c₁} {r₂} {c₂} {b} h k lr lc =
    record {
      is =
          k.is ∙ ap (moved_in n w r₂ c₂) h.is
          ∙ moved_ext n w r₂ c₂ (λ i c. r₁ (r₂ i c) (c₂ i c)) (λ i c. c₁ (r₂ i c) (c₂ i c)) (moved_in n w r₁ c₁ b) b
          (λ i c li hc. moved_bit_lem n w r₁ c₁ b (r₂ i c) (c₂ i c) (lr i c li hc) (lc i c li hc));
    }

-- A block is sixteen numbers of 16 bits.
pub block_moved : (row column : ℕ → ℕ → ℕ) (b : List ℕ) → moved_in 16 16 row column b ≡ moved row column b
unfolding moved_in moved_word moved block row_word bit_at
block_moved row column b = refl

pub pick_lt : (t u v w : ℕ) → u < w → v < w → pick t u v < w
unfolding pick
pick_lt zero u v w hu hv = hv
pick_lt (suc t) u v w hu hv = hu

-- A block by columns.
pub transposed_bit : (b : List ℕ) (i j : ℕ) → i < 16 → j < 16 → bit_at (transposed b) j i ≡ bit_at b i j
unfolding transposed moved
transposed_bit b i j li lj = bit_at_block_of (λ r c. bit_at b c r) (λ r c. bit_at_lt b c r) j i lj li
