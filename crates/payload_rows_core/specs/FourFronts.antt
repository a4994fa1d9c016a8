-- The invariant of a loop that fills a buffer of 32 values, one of each eight a turn: none / more / done.
-- Assumes nothing.
use Rattle.std.specs.Prelude.{◌≡◌, List, ◌≢◌, ℕ, ◌+◌, ◌%◌, ◌<◌, ◌≤◌, length, get_or, set}
use Rattle.std.proofs.Common.{◌∙◌, arith, length-set, get_or-set_same, get_or-set_other}
use Rattle.std.proofs.Math.Decide.{ℕ_discrete}
use Rattle.bits.specs.Lists.{tabulate}
use Rattle.bits.specs.ListLaws.{is_tabulate}

-- Of each eight of 32 values the first i are f's.
pub record FourFronts (f : ℕ → ℕ) (i : ℕ) (d : List ℕ) : Type 0 where
  pub upto : i ≤ 8
  pub long : length d ≡ 32
  pub done : (k : ℕ) → k < 32 → k % 8 < i → get_or d k 0 ≡ f k

pub fronts_none : (f : ℕ → ℕ) (d : List ℕ) → length d ≡ 32 → FourFronts f 0 d
fronts_none f d e = record { upto = omega arith; long = e; done = λ k l m. absurd (omega arith) }

-- A value was put where f has it: what stands at k is f's, if it was so at any other place.
put_one : (f : ℕ → ℕ) (d : List ℕ) (p v k : ℕ) → p < length d → v ≡ f p → (k ≢ p → get_or d k 0 ≡ f k) → get_or (set d p v) k 0 ≡ f k
put_one f d p v k l e other = go (ℕ_discrete k p)
  where
    go : Dec (k ≡ p) → get_or (set d p v) k 0 ≡ f k
    go (yes q) = rw q (get_or-set_same d p v 0 l ∙ e)
    go (no q) = get_or-set_other d p k v 0 q ∙ other q

module _ {f : ℕ → ℕ} {i : ℕ} {d : List ℕ} (h : FourFronts f i d) (l : i < 8) (a b c e : ℕ) where
  length_one : length (set d i a) ≡ 32
  length_one = length-set d i a ∙ h.long

  length_two : length (set (set d i a) (8 + i) b) ≡ 32
  length_two = length-set (set d i a) (8 + i) b ∙ length_one

  length_three : length (set (set (set d i a) (8 + i) b) (16 + i) c) ≡ 32
  length_three = length-set (set (set d i a) (8 + i) b) (16 + i) c ∙ length_two

  pub fronts_more : a ≡ f i → b ≡ f (8 + i) → c ≡ f (16 + i) → e ≡ f (24 + i)
      → FourFronts f (i + 1) (set (set (set (set d i a) (8 + i) b) (16 + i) c) (24 + i) e)
  fronts_more p q r s =
      record {
        upto = omega arith;
        long = length-set (set (set (set d i a) (8 + i) b) (16 + i) c) (24 + i) e ∙ length_three;
        done = λ k lk m.
            put_one f (set (set (set d i a) (8 + i) b) (16 + i) c) (24 + i) e k (omega (arith, length_three)) s
            (λ z. put_one f (set (set d i a) (8 + i) b) (16 + i) c k (omega (arith, length_two)) r
            (λ y. put_one f (set d i a) (8 + i) b k (omega (arith, length_one)) q
            (λ x. put_one f d i a k (omega (arith, h.long)) p
            (λ w. h.done k lk (omega arith)))));
      }

pub fronts_done : {f : ℕ → ℕ} {i : ℕ} {d : List ℕ} → FourFronts f i d → 8 ≤ i → d ≡ tabulate 32 f
fronts_done {f} {i} {d} h l = is_tabulate 0 d 32 f h.long (λ k lk. h.done k lk (omega arith))
