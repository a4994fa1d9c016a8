-- Demand 3 is met.
-- Assumes nothing.
use Rattle.cells_spec.specs.Modulation.{Modulation}
use Rattle.line_spec.specs.Outward.{Outward}
use Rattle.line_spec.specs.Inward.{Inward}
use Rattle.line_spec.specs.Demand3.{Demand3}
use Rattle.line_spec.proofs.OutwardLaws.{goes}
use Rattle.line_spec.proofs.InwardLaws.{comes}

-- Over every profile, every two lists of encoding calls, every line and every two lists of receiving calls on it, all that 01, "Whole
-- runs", claims.
pub demand3 : (p : Modulation) (o : Outward p) (i : Inward p o) → Demand3 p o i
demand3 p o i = record { goes = goes p o; comes = comes p o i }
