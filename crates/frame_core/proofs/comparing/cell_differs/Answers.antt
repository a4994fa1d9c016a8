-- `frame_core::comparing::cell_differs` meets its contract: in X, in Y, or in neither.
use Rattle.std.proofs.Common.{rules}
use Rattle.frame_spec.proofs.ByteLaws.{cell_by_cell}
use Rattle.frame_core.proofs.comparing.cell_differs.Goals as goal
use Rattle.frame_core.proofs.comparing.cell_differs.Goals.{else-a-i-via-then-a-i+else-a-i-2, else-a-i-via-else-a-i}

pub returns-then-a-i-2 : goal.returns-then-a-i-2
returns-then-a-i-2 c = search (rules, cell_by_cell)

pub returns-else-a-i : goal.returns-else-a-i
returns-else-a-i c =
    elim c.else-a-i.branch [
      | else-a-i-via-then-a-i+else-a-i-2 w ↦ search (rules, cell_by_cell)
      | else-a-i-via-else-a-i w ↦ search (rules, cell_by_cell)
    ]
