-- Laws of parts of a buffer, and of buffers end to end: each is its own part of the whole.
-- Assumes nothing.
use Rattle.std.specs.Prelude.{◌≡◌, ℕ, suc, ◌+◌, ◌-◌, ◌*◌, ◌/◌, ◌%◌, ◌<◌, ◌≤◌, length, drop}
use Rattle.std.proofs.Common.{sym, ap₂, ◌∙◌, suc-mul, mul-le-mul_right, arith, length-drop, ext_get_or, length-take-le, get_or-take, get_or-drop, take_all}
use Rattle.std.proofs.Math.Path.{ap}
use mathlib.Core.List.{List}
use Rattle.std.proofs.Math.ListN.{get_or}
use Rattle.bits.proofs.DigitLaws.{group_of, place_of, group_lt}
use Rattle.bits.specs.Lists.{tabulate}
use Rattle.bits.specs.ListLaws.{length_tabulate, get_d_tabulate, is_tabulate, tabulate_ext}
use Rattle.bits.specs.Parts.{part, part_of, byte_of_each, end_to_end}

-- ---- parts of a buffer

module _ (a n : ℕ) (s : List ℕ) (l : a + n ≤ length s) where
  pub part_length : length (part a n s) ≡ n
  part_length = length-take-le n (drop a s) (simp length-drop (omega arith))

  pub part_at : (i : ℕ) → i < n → get_or (part a n s) i 0 ≡ get_or s (a + i) 0
  part_at i li = get_or-take n (drop a s) i 0 li ∙ get_or-drop a s i 0

-- All of it.
pub part_whole : (n : ℕ) (s : List ℕ) → length s ≡ n → part 0 n s ≡ s
part_whole n s e =
    let fits : 0 + n ≤ length s = omega arith in
    ext_get_or 0 (part 0 n s) s (part_length 0 n s fits ∙ sym e)
    (λ i l. part_at 0 n s fits i (omega (arith, part_length 0 n s fits)) ∙ ap (λ k. get_or s k 0) (omega arith))

-- All from byte a on, as code lends it.
pub part_behind : (a : ℕ) (s : List ℕ) → part a (length s - a) s ≡ drop a s
part_behind a s = take_all (length s - a) (drop a s) (omega (arith, length-drop a s))

-- The part from a to e, as code lends it.
pub part_long : (a e n : ℕ) (s : List ℕ) → e ≡ a + n → e ≤ length s → length (part a (e - a) s) ≡ n
part_long a e n s ee l = let size : e - a ≡ n = omega arith in part_length a (e - a) s (omega arith) ∙ size

-- Part k of m.
module _ (w m k : ℕ) (l : k < m) (s : List ℕ) (long : length s ≡ m * w) where
  pub part_within : k * w + w ≤ length s
  part_within = omega (arith, suc-mul k w, mul-le-mul_right {m = suc k} {n = m} w l)

  pub part_of_length : length (part_of w s k) ≡ w
  part_of_length = part_length (k * w) w s part_within

  pub part_of_at : (i : ℕ) → i < w → get_or (part_of w s k) i 0 ≡ get_or s (k * w + i) 0
  part_of_at = part_at (k * w) w s part_within

-- ---- end to end

module _ (m w : ℕ) (f : ℕ → List ℕ) where
  pub end_to_end_length : length (end_to_end m w f) ≡ m * w
  unfolding end_to_end
  end_to_end_length = length_tabulate (m * w) (byte_of_each w f)

  pub is_end_to_end : (d : List ℕ) → d ≡ tabulate (m * w) (byte_of_each w f) → d ≡ end_to_end m w f
  unfolding end_to_end
  is_end_to_end d e = e

  pub end_to_end_at : (y : ℕ) → y < m * w → get_or (end_to_end m w f) y 0 ≡ byte_of_each w f y
  unfolding end_to_end
  end_to_end_at y l = get_d_tabulate (m * w) (byte_of_each w f) y 0 l

  pub end_to_end_ext : (g : ℕ → List ℕ) → 0 < w → ((k : ℕ) → k < m → f k ≡ g k) → end_to_end m w f ≡ end_to_end m w g
  unfolding end_to_end
  end_to_end_ext g pos e =
      tabulate_ext (m * w) (byte_of_each w f) (byte_of_each w g) (λ y l. ap (λ (s : List ℕ). get_or s (y % w) 0) (e (y / w) (group_lt w pos y m l)))

-- Byte i of block k.
pub each_at : (f : ℕ → List ℕ) (w k i : ℕ) → 0 < w → i < w → byte_of_each w f (k * w + i) ≡ get_or (f k) i 0
each_at f w k i pos l = ap₂ (λ b j. get_or (f b) j 0) (group_of w pos k i l) (place_of w pos k i l)

-- A buffer that is f k is block k of the whole,
pub each_block : (f : ℕ → List ℕ) (w k : ℕ) (ys : List ℕ) → 0 < w → length ys ≡ w → ys ≡ f k
    → ys ≡ tabulate w (λ i. byte_of_each w f (k * w + i))
each_block f w k ys pos long e =
    is_tabulate 0 ys w (λ i. byte_of_each w f (k * w + i)) long (λ i l. ap (λ s. get_or s i 0) e ∙ sym (each_at f w k i pos l))

-- and that block is it.
pub part_end_to_end : (m w : ℕ) (f : ℕ → List ℕ) (k : ℕ) → 0 < w → k < m → length (f k) ≡ w → part_of w (end_to_end m w f) k ≡ f k
part_end_to_end m w f k pos l long =
    ext_get_or 0 (part_of w (end_to_end m w f) k) (f k) (part_of_length w m k l (end_to_end m w f) whole ∙ sym long)
    (λ i li. let h : i < w = omega (arith, part_of_length w m k l (end_to_end m w f) whole) in
    part_of_at w m k l (end_to_end m w f) whole i h
    ∙ end_to_end_at m w f (k * w + i) (omega (arith, part_within w m k l (end_to_end m w f) whole, whole))
    ∙ each_at f w k i pos h)
  where
    whole : length (end_to_end m w f) ≡ m * w
    whole = end_to_end_length m w f
