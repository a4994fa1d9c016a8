-- The lanes of eight, four and two, as code goes through them.
-- Assumes nothing.
use Rattle.std.specs.Prelude.{◌≡◌, List, ℕ, ◌+◌, ◌*◌, ◌<◌, length, get_or}
use Rattle.std.specs.Int.Bits.{bit_xor}
use Rattle.std.proofs.Common.{ap, ap₂, ◌∙◌, arith}
use Rattle.bits.specs.Lists.{tabulate}
use Rattle.bits.specs.ListLaws.{is_tabulate}
use Rattle.bits.specs.Xor.{◌⊕◌}
use Rattle.blocks.specs.SideBySide.{laid_in}
use Rattle.blocks.specs.Laying.{Laid, laid_none, laid_more, laid_fewer}
use Rattle.networks_spec.specs.Networks.{network, lane, added, back_columns, front_columns, up64_columns, up32_columns, up16_columns}
use Rattle.gathering_spec.specs.Sums.{halves_lane, lane64, paired_lanes, lanes32, lower_halves, upper_halves, lane16, joined_rows}

-- s came, level by level, from the sums of the blocks of two rows.
pub record Levelled (a b s : List ℕ) : Type 0 where
  pub four : List ℕ
  pub of_eight : Laid (lane64 (joined_rows a b)) 4 four
  pub of_four : s ≡ lane16 (lanes32 four)

pub levelled : (a b eight four two s : List ℕ) → eight ≡ joined_rows a b → Laid (lane64 eight) 4 four → two ≡ lanes32 four → s ≡ lane16 two
    → Levelled a b s
levelled a b eight four two s e l m q = record { four = four; of_eight = rw e at l; of_four = q ∙ ap lane16 m }

-- ---- lanes and sums of lanes as generic code gives them

pub lane_made : (x : List ℕ) (C : ℕ) (f : List ℕ) → ((z : ℕ) → f ≡ tabulate 16 (λ i. get_or x (8 * i + C) z)) → f ≡ lane x C
unfolding lane
lane_made x C f e = e 0

pub added_made : (a b r : List ℕ) → length r ≡ 16 → ((z i : ℕ) → i < 16 → get_or r i z ≡ bit_xor (get_or a i z) (get_or b i z)) → r ≡ added a b
unfolding added ◌⊕◌
added_made a b r n e = is_tabulate 0 r 16 (λ i. get_or a i 0 ⊕ get_or b i 0) n (λ i l. e 0 i l)

-- ---- a lane of sums, call by call

pub halves_made : (x y : List ℕ) (C : ℕ) (f b s t r : List ℕ) → f ≡ lane x C → b ≡ lane y C → s ≡ network front_columns f → t ≡ network back_columns b → r ≡ added s t
    → r ≡ halves_lane x y C
unfolding halves_lane
halves_made x y C f b s t r ef eb es et er = er ∙ ap₂ added (es ∙ ap (network front_columns) ef) (et ∙ ap (network back_columns) eb)

-- The one list moved on, the other added to it.
raised : (columns : List ℕ) {x y : List ℕ} (f b s r : List ℕ) → f ≡ x → b ≡ y → s ≡ network columns f → r ≡ added s b
    → r ≡ added (network columns x) y
raised columns f b s r ef eb es er = er ∙ ap₂ added (es ∙ ap (network columns) ef) eb

module _ (z f b s r : List ℕ) where
  pub made64 : (C : ℕ) → f ≡ lane z C → b ≡ lane z (C + 4) → s ≡ network up64_columns f → r ≡ added s b → r ≡ lane64 z C
  unfolding lane64
  made64 C = raised up64_columns f b s r

  pub made32 : f ≡ paired_lanes z 0 → b ≡ paired_lanes z 2 → s ≡ network up32_columns f → r ≡ added s b → r ≡ lanes32 z
  unfolding lanes32
  made32 = raised up32_columns f b s r

  pub made16 : f ≡ lower_halves z → b ≡ upper_halves z → s ≡ network up16_columns f → r ≡ added s b → r ≡ lane16 z
  unfolding lane16
  made16 = raised up16_columns f b s r

-- ---- lanes laid side by side, with the bounds of the loop

pub laid_four : {f : ℕ → List ℕ} {C : ℕ} {from : List ℕ} (b row : List ℕ) → Laid f C from → C < 4 → row ≡ laid_in from C b → b ≡ f C
    → Laid f (C + 1) row
laid_four b row h l e p = laid_more b row h (omega arith) e p

pub ruleset lanes_laid = (laid_none, laid_four, laid_fewer)
