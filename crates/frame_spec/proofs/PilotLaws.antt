-- Laws for the count of differing overhead cells by what is overhead alone: the cells below the edge, then the pilots. none / more / done.
-- Assumes nothing.
use Rattle.std.specs.Prelude.{◌≡◌, refl, List, ◌≢◌, ℕ, ◌+◌, ◌-◌, ◌*◌, ◌/◌, ◌%◌, ◌<◌, ◌≤◌}
use Rattle.std.proofs.Common.{sym, ap₂, ◌∙◌, arith, Fits}
use Rattle.std.proofs.Math.Path.{ap}
use Rattle.std.specs.Int.{w32}
use Rattle.bits.specs.Count.{count}
use Rattle.bits.proofs.CountLaws.{count_le, count_split, count_none, count_one}
use Rattle.bits.proofs.Folding.{Counting}
use Rattle.frame_spec.specs.Frames.{cell_differs, overhead_differs, differing}
use Rattle.frame_spec.specs.Layout.{edge, gap}
use Rattle.frame_spec.proofs.LayoutLaws.{First, zeroth, other, which, edge_le}
use Rattle.frame_spec.proofs.FrameLaws.{cell_differs_le}
use Rattle.frame_spec.proofs.ByteLaws.{differs_rest, differs_pilot, overhead_differs_le}

module _ (s : ℕ) (frame own : List ℕ) where
  -- ---- below the edge

  pub below_fits : (e n m v : ℕ) → Counting (overhead_differs s frame own) e m n → e ≡ edge s → v ≡ cell_differs frame m own m
      → Fits w32 (n + v)
  below_fits e n m v c is d =
      record {
        fits = omega (
          arith,
          c.upto,
          c.is,
          count_le m (overhead_differs s frame own) (overhead_differs_le s frame own),
          edge_le s,
          cell_differs_le frame m own m,
        );
      }

  pub below_done : (e n : ℕ) → n ≡ count e (overhead_differs s frame own) → e ≡ edge s → n ≡ count (edge s) (overhead_differs s frame own)
  below_done e n c is = c ∙ ap (λ k. count k (overhead_differs s frame own)) is

  -- ---- the pilots

  -- n of the cells before group i differ.
  pub record Pilots (i n : ℕ) : Type 0 where
    pub turns : i ≤ 116
    pub past : edge s ≤ i * 32
    pub is : n ≡ count (i * 32) (overhead_differs s frame own)

  -- From the edge to the first whole group all cells carry payload.
  pub pilots_none : (w n : ℕ) → n ≡ count (edge s) (overhead_differs s frame own) → w + gap s ≡ edge s → edge s ≤ w * 32 → w ≤ 4 → Pilots w n
  pilots_none w n c is l lw =
      let m : edge s + (w * 32 - edge s) ≡ w * 32 = omega arith in
      record {
        turns = omega arith;
        past = l;
        is = omega (
          arith,
          ap (λ k. count k (overhead_differs s frame own)) m,
          count_split (edge s) (w * 32 - edge s) (overhead_differs s frame own),
          count_none (w * 32 - edge s) (λ k. overhead_differs s frame own (edge s + k)) (λ k lk. sym (differs_rest s frame own (edge s + k) (edge s) refl (omega arith) (off k lk (which s)))),
        );
      }
    where
      off : (k : ℕ) → k < w * 32 - edge s → First s → (edge s + k) % 32 ≢ 0
      off k lk (zeroth z p q) = omega arith
      off k lk (other z p q) = omega arith

  module _ {i n : ℕ} (h : Pilots i n) where
    pub pilots_fits : (v k : ℕ) → v ≡ cell_differs frame (i * 32) own k → Fits w32 (n + v)
    pilots_fits v k d =
        record {
          fits = omega (
            arith,
            h.turns,
            h.is,
            count_le (i * 32) (overhead_differs s frame own) (overhead_differs_le s frame own),
            cell_differs_le frame (i * 32) own k,
          );
        }

    pub pilots_more : (g v : ℕ) → i < 116 → g ≡ gap s → v ≡ cell_differs frame (i * 32) own (i + g) → Pilots (i + 1) (n + v)
    pilots_more g v l gs d =
        let m : (i + 1) * 32 ≡ i * 32 + 32 = omega arith in
        let q : i ≡ i * 32 / 32 = omega arith in
        record {
          turns = omega arith;
          past = omega (arith, h.past);
          is = ap₂ ◌+◌ h.is
              (differs_pilot s frame own (i * 32) (edge s) refl v g gs h.past (omega arith) (d ∙ ap (λ k. cell_differs frame (i * 32) own (k + g)) q)
              ∙ sym (count_one 32 0 (λ k. overhead_differs s frame own (i * 32 + k)) (omega arith)
              (λ k lk ne. sym (differs_rest s frame own (i * 32 + k) (edge s) refl (omega (arith, h.past)) (omega arith)))
              ∙ ap (overhead_differs s frame own) (omega arith)))
              ∙ sym (ap (λ k. count k (overhead_differs s frame own)) m ∙ count_split (i * 32) 32 (overhead_differs s frame own));
        }

    pub pilots_done : 116 ≤ i → n ≡ differing s frame own
    unfolding differing
    pilots_done l = let e : i * 32 ≡ 3712 = omega (arith, h.turns) in h.is ∙ ap (λ k. count k (overhead_differs s frame own)) e

pub ruleset by_pilots = (pilots_none, pilots_fits, pilots_more, pilots_done)
