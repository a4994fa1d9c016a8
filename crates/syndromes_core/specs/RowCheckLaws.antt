-- What is gathered of both rows is gathered of the words of the pair.
-- Assumes nothing.
use Rattle.std.specs.Prelude.{◌≡◌, refl, List, ℕ, ◌+◌, ◌*◌, ◌%◌}
use Rattle.gathering_spec.specs.Sums.{joined_rows, Gathered, Parities}
use Rattle.gathering_spec.proofs.SumLaws.{gathered}
use Rattle.gathering_spec.proofs.ParityLaws.{parities}
use Rattle.rows_core.specs.Held.{halves_word}
use Rattle.rows_core.specs.HeldLaws.{gathered_joined, parities_joined}
use Rattle.gathering_core.specs.Lanes.{Levelled}
use Rattle.syndromes_core.specs.RowChecks.{RowChecked}

module _ (h : List ℕ) (P : ℕ) (halves a b : List ℕ) (p q : ℕ) (m : RowChecked h P halves 0 a p) (n : RowChecked h P halves 1 b q) where
  pub gathered_levels : (s : List ℕ) → Levelled a b s → Gathered (halves_word h P halves) s
  gathered_levels s l =
      gathered_joined h P halves m.x m.y n.x n.y m.fronts m.backs n.fronts n.backs s
      (gathered m.x m.y n.x n.y a b (joined_rows a b) l.four s m.sums n.sums refl l.of_eight l.of_four)

  pub parities_levels : (r : ℕ) → r ≡ p * 65536 + q % 65536 → Parities (halves_word h P halves) r
  parities_levels r e =
      parities_joined h P halves m.x m.y n.x n.y m.fronts m.backs n.fronts n.backs r
      (parities m.x m.y n.x n.y p q r m.parity n.parity e)
