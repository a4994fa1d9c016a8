-- The invariant of a loop that fills a buffer from the front, value by value or block by block: none / more / done.
-- Assumes nothing.
use Rattle.std.specs.Prelude.{◌≡◌, List, ◌++◌, ◌≢◌, ℕ, suc, ◌+◌, ◌-◌, ◌*◌, ◌<◌, ◌≤◌, length, get_or, set, take, drop}
use Rattle.std.proofs.Common.{ap, ◌∙◌, ⊎_elim, eq-zero-or-pos, zero-mul, one-mul, suc-mul, add-mul, mul-le-mul_right, arith, below_none, below_more, length-set, length-append, length-take, length-drop, get_or-set_same, get_or-set_other, length-take-le, get_or-take, get_or-append-add}
use Rattle.std.proofs.Math.Nat.{add-sub_cancel_left}
use borrow.Rule.Slice.PartMut.{put_mid}
use Rattle.std.proofs.Math.ListN.{get_or-append}
use Rattle.bits.specs.Lists.{tabulate}
use Rattle.bits.specs.ListLaws.{length_tabulate, get_d_tabulate, is_tabulate}

-- A buffer of n values whose first i are f's.
pub record Filling {A : Type 0} (f : ℕ → A) (n i : ℕ) (d : List A) : Type 0 where
  pub upto : i ≤ n
  pub long : length d ≡ n
  pub done : (z : A) (k : ℕ) → k < i → get_or d k z ≡ f k

module _ {A : Type 0} where
  pub fill_none : (f : ℕ → A) (n : ℕ) (d : List A) → length d ≡ n → Filling f n 0 d
  fill_none f n d e = record { upto = omega arith; long = e; done = λ z. below_none (λ k. get_or d k z ≡ f k) }

  pub fill_more : {f : ℕ → A} {n i : ℕ} {d : List A} (v : A) → Filling f n i d → i < n → v ≡ f i → Filling f n (i + 1) (set d i v)
  fill_more {f} {n} {i} {d} v h l e =
      record {
        upto = omega arith;
        long = length-set d i v ∙ h.long;
        done = λ z. below_more (λ k. get_or (set d i v) k z ≡ f k) i
            (λ k lk. let ne : k ≢ i = omega arith in get_or-set_other d i k v z ne ∙ h.done z k lk)
            (get_or-set_same d i v z (omega (arith, h.long)) ∙ e);
      }

  pub fill_done : {f : ℕ → A} {n i : ℕ} {d : List A} → Filling f n i d → n ≤ i → d ≡ tabulate n f
  fill_done {f} {n} {i} {d} h l = is_tabulate (f 0) d n f h.long (λ k lk. h.done (f 0) k (omega arith))

  -- The first m are also g's, where f and g agree on them.
  pub fill_ext : {f g : ℕ → A} {n i : ℕ} {d : List A} (m : ℕ) → Filling f n i d → m ≤ i → ((k : ℕ) → k < m → f k ≡ g k) → Filling g n m d
  fill_ext m h l e = record { upto = omega arith; long = h.long; done = λ z k lk. h.done z k (omega arith) ∙ e k lk }

  -- The part from i on was lent to a call that filled m of its values with f's.
  pub fill_part : {f : ℕ → A} {n i : ℕ} {d : List A} (m : ℕ) (ys : List A) → Filling f n i d → i + m ≤ n → ys ≡ tabulate m (λ k. f (i + k))
      → Filling f n (i + m) (take i d ++ (ys ++ drop m (drop i d)))
  fill_part {f} {n} {i} {d} m ys h l e =
      record {
        upto = l;
        long = simp (length-append, length-take, length-drop, ly) (omega arith);
        done = λ z k lk. ⊎_elim (λ o. inside z k (omega arith) lk) (λ o. before z k (omega arith)) (eq-zero-or-pos (i - k));
      }
    where
      ly : length ys ≡ m
      ly = ap length e ∙ length_tabulate m (λ k. f (i + k))

      lt : length (take i d) ≡ i
      lt = length-take-le i d (omega arith)

      before : (z : A) (k : ℕ) → k < i → get_or (take i d ++ (ys ++ drop m (drop i d))) k z ≡ f k
      before z k p = get_or-append (take i d) (ys ++ drop m (drop i d)) z k (omega (arith, lt)) ∙ get_or-take i d k z p ∙ h.done z k p

      inside : (z : A) (k : ℕ) → i ≤ k → k < i + m → get_or (take i d ++ (ys ++ drop m (drop i d))) k z ≡ f k
      inside z k p q =
          let s : k ≡ length (take i d) + (k - i) = omega (arith, lt) in
          ap (λ (x : ℕ). get_or (take i d ++ (ys ++ drop m (drop i d))) x z) s
          ∙ get_or-append-add (take i d) (ys ++ drop m (drop i d)) (k - i) z
          ∙ get_or-append ys (drop m (drop i d)) z (k - i) (omega (arith, ly))
          ∙ ap (λ (t : List A). get_or t (k - i) z) e
          ∙ get_d_tabulate m (λ x. f (i + x)) (k - i) z (omega arith)
          ∙ ap f (omega arith)

  -- Two values a turn.
  pub fill_two : {f : ℕ → A} {n i j : ℕ} {d : List A} (u v : A) → Filling f n i d → i + 1 < n → u ≡ f i → v ≡ f (i + 1) → j ≡ i + 1 + 1
      → Filling f n j (set (set d i u) (i + 1) v)
  fill_two u v h l p q e = rw e (fill_more v (fill_more u h (omega arith) p) l q)

pub ruleset fill = (fill_none, fill_more, fill_done)

-- A buffer of m blocks of w values each, of which the first k are filled.
pub record Blocks {A : Type 0} (f : ℕ → A) (w m k : ℕ) (d : List A) : Type 0 where
  pub turns : k ≤ m
  pub filled : Filling f (m * w) (k * w) d

module _ {A : Type 0} where
  pub blocks_none : (f : ℕ → A) (w m : ℕ) (d : List A) → length d ≡ m * w → Blocks f w m 0 d
  blocks_none f w m d e = record { turns = omega arith; filled = rw (zero-mul w) (fill_none f (m * w) d e) }

  blocks_more : {f : ℕ → A} {w m k : ℕ} {d : List A} (ys : List A) → Blocks f w m k d → k < m → ys ≡ tabulate w (λ i. f (k * w + i))
      → Blocks f w m (k + 1) (put_mid (k * w) (k * w + w - k * w) d ys)
  blocks_more {f} {w} {m} {k} {d} ys h l e =
      record {
        turns = omega arith;
        filled = rw (add-mul k 1 w, one-mul w, add-sub_cancel_left (k * w) w)
            (fill_part w ys h.filled (omega (arith, suc-mul k w, mul-le-mul_right {m = suc k} {n = m} w l)) e);
      }

  -- The part from a to e was lent, which is block k.
  pub blocks_next : {f : ℕ → A} {w m k : ℕ} {d : List A} (a e : ℕ) (ys : List A) → Blocks f w m k d → k < m → a ≡ k * w → e ≡ a + w
      → ys ≡ tabulate w (λ i. f (k * w + i))
      → Blocks f w m (k + 1) (put_mid a (e - a) d ys)
  blocks_next a e ys h l p q t = rw (q, p) (blocks_more ys h l t)

  pub blocks_done : {f : ℕ → A} {w m k : ℕ} {d : List A} (n : ℕ) → Blocks f w m k d → m ≤ k → m * w ≡ n → d ≡ tabulate n f
  blocks_done {f} {w} {m} {k} {d} n h l e = rw e at (fill_done h.filled (mul-le-mul_right {m = m} {n = k} w l))

pub ruleset by_blocks = (blocks_none, blocks_next, blocks_done)
