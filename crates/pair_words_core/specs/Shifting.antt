-- Numbers of a buffer that come down by m places, part after part.
-- Assumes nothing.
use Rattle.std.specs.Prelude.{◌≡◌, List, [], ◌++◌, ℕ, ◌+◌, ◌-◌, ◌<◌, ◌≤◌, length, get_or, take, drop}
use Rattle.std.proofs.Common.{sym, ap, ◌∙◌, append-nil, arith, length-drop, drop_of_length-le, get_or-take, get_or-drop, ext_get_or, length-take-le}
use Rattle.std.proofs.Math.Decide.{dec_lt}
use borrow.Rule.Slice.PartMut.{put_mid}
use Rattle.std.proofs.lemmas.List.{drop-append-le}
use Rattle.pair_spec.specs.History.{shift}

-- Of a buffer that was h, numbers a to i of those that are to come down, a to b, have come from m places above; the others stand as they
-- did.
pub record Moving (m : ℕ) (h : List ℕ) (a b i : ℕ) (d : List ℕ) : Type 0 where
  pub start : a ≤ i
  pub upto : i ≤ b
  pub room : b + m ≤ length h
  pub long : length d ≡ length h
  pub before : (k : ℕ) → k < a → get_or d k 0 ≡ get_or h k 0
  pub came_down : (k : ℕ) → a ≤ k → k < i → get_or d k 0 ≡ get_or h (m + k) 0
  pub left : (k : ℕ) → i ≤ k → get_or d k 0 ≡ get_or h k 0

-- One part after the other.
pub move_on : {m : ℕ} {h : List ℕ} {a : ℕ} {x : List ℕ} {b : ℕ} {y : List ℕ} → Moving m h 0 a a x → Moving m x a b b y → Moving m h 0 b b y
move_on {m} {h} {a} {x} {b} {y} s t =
    record {
      start = omega arith;
      upto = omega arith;
      room = omega (arith, t.room, s.long);
      long = t.long ∙ s.long;
      before = λ k l. absurd (omega arith);
      came_down = λ k p l. go k l (dec_lt k a);
      left = λ k l. t.left k l ∙ s.left k (omega (arith, t.start));
    }
  where
    go : (k : ℕ) → k < b → Dec (k < a) → get_or y k 0 ≡ get_or h (m + k) 0
    go k l (yes q) = t.before k q ∙ s.came_down k (omega arith) q
    go k l (no q) = t.came_down k (omega arith) l ∙ s.left (m + k) (omega arith)

pub move_all : {m : ℕ} {h : List ℕ} {n : ℕ} {d : List ℕ} → Moving m h 0 n n d → n + m ≡ length h → take n d ≡ drop m h
move_all {m} {h} {n} {d} s e =
    ext_get_or 0 (take n d) (drop m h) (long ∙ sym (length-drop m h ∙ omega arith))
    (λ k lk. let b : k < n = omega (arith, long) in get_or-take n d k 0 b ∙ s.came_down k (omega arith) b ∙ sym (get_or-drop m h k 0))
  where
    long : length (take n d) ≡ n
    long = length-take-le n d (omega (arith, s.long))

-- With the newest pair behind what was moved down, the history is shifted.
pub shift_is : (h d q r : List ℕ) (n e : ℕ) → Moving 512 h 0 n n d → n + 512 ≡ length h → e ≡ 512 → r ≡ q → put_mid n e d r ≡ shift h q
unfolding shift
shift_is h d q r n e s long el p =
    rw (el, move_all s long, p) (ap (λ t. drop 512 h ++ (q ++ t)) rest ∙ ap (λ t. drop 512 h ++ t) (append-nil q) ∙ sym (drop-append-le 512 h q (omega arith)))
  where
    rest : drop 512 (drop n d) ≡ []
    rest = drop_of_length-le (drop n d) {i = 512} (omega (arith, length-drop n d, s.long))

pub shift_behind : (h d q r : List ℕ) → 512 ≤ length h → Moving 512 h 0 (length h - 512) (length h - 512) d → r ≡ q
    → put_mid (length h - 512) (length d - (length h - 512)) d r ≡ shift h q
shift_behind h d q r l s p = shift_is h d q r (length h - 512) (length d - (length h - 512)) s (omega arith) (omega (arith, s.long)) p
